-- Seams that are noted while a word is composed: what was done before a piece is met for the first time depends neither on it nor on
-- what stands behind it.
use Rattle.std.proofs.Common.{◌≡◌, ℕ, suc, ◌+◌, ◌-◌, ◌<◌, ◌≤◌, min, Bool, true, false, cond, ltb, leb, Option, Some, None, List, [], ◌∷◌, ◌++◌, length, take, drop, map, refl, sym, ap, subst, ◌∙◌, append_assoc, length-append, arith}
use Rattle.std.specs.Prelude.{All, IsTrue}
use Rattle.std.proofs.lemmas.Bool.{ltb-true, ltb-false, lt-leb, le-leb, true≢false}
use Rattle.std.proofs.lemmas.List.{append-nil, length-drop, take-append-drop}
use Rattle.std.proofs.lemmas.List.Elements.{All-append, All-cons, All-drop, All-nil, All-take}
use Rattle.tx_tfm.specs.declared.file.Word.{Word}
use Rattle.tx_tfm.specs.declared.metrics.Metrics.{Metrics}
use Rattle.tx_tfm.specs.Format.{is_there}
use Rattle.tx_tfm.specs.LigKern.{command_of}
use Rattle.tx_tfm.specs.Metrics.{kern_of}
use Rattle.tx_tfm.specs.Sound.{IsSound}
use Rattle.tx_ligkern.specs.declared.item.LigItem.{LigItem}
use Rattle.tx_ligkern.specs.declared.item.LigItem.TheVariants as lig
use Rattle.tx_ligkern.specs.declared.pair.Met.{Met}
use Rattle.tx_ligkern.specs.declared.pair.Met.TheVariants.{Nothing, Kern, Ligature}
use Rattle.tx_ligkern.specs.declared.piece.Piece.{Piece}
use Rattle.tx_ligkern.specs.declared.piece.Piece.TheVariants.{Boundary, Char}
use Rattle.tx_ligkern.specs.declared.seam.Seam.{Seam}
use Rattle.tx_ligkern.specs.Composed.{composed}
use Rattle.tx_ligkern.specs.Composing.{ahead, in_place, passed, passes, Becomes, Last, Apart, Kerned, Joined}
use Rattle.tx_ligkern.specs.Pairs.{is_ligature, kern_in, met_by, met_of}
use Rattle.tx_ligkern.specs.Pieces.{boundary, code_of, items_of, word_of}
use Rattle.tx_ligkern.specs.Seams.{IsCut, IsSeam, boundary_count, noted_by, seen}
use Rattle.tx_ligkern.specs.Steps.{finished, onward, Moved}
use Rattle.tx_ligkern.proofs.Once.{once}
use Rattle.tx_ligkern.proofs.Rewritten.{ahead-some}
use Rattle.tx_ligkern.proofs.Within.{composed-is}

-- ---- a step, whatever stands behind its pair

-- the command that a pair meets
abbrev command : Metrics → Piece → Piece → Option Word
command m current next = command_of m.file (code_of current) (code_of next)

step-becomes : (m : Metrics) (current next : Piece) (others : List Piece) (more : List LigItem) → Becomes m (onward (command m current next) current next others) more
    → Becomes m (current ∷ next ∷ others) (finished m (command m current next) current next ++ more)
step-becomes m current next others more b = by (command m current next) refl b
  where
    sized : (w : Word) → command m current next ≡ Some w → (small : Bool) → ltb w.c 128 ≡ small → Becomes m (cond small (ahead w current next others) (next ∷ others)) more
        → Becomes m (current ∷ next ∷ others) (cond small (passed w current next) (items_of current ++ lig.Kern (kern_of m w) ∷ []) ++ more)
    sized w is true e k = Joined current next others more w is (ltb-true w.c 128 e) k
    sized w is false e k =
        subst (λ (l : List LigItem). Becomes m (current ∷ next ∷ others) l) (sym (append_assoc (items_of current) (lig.Kern (kern_of m w) ∷ []) more))
        (Kerned current next others more w is (ltb-false w.c 128 e) k)

    by : (o : Option Word) → command m current next ≡ o → Becomes m (onward o current next others) more → Becomes m (current ∷ next ∷ others) (finished m o current next ++ more)
    by None is k = Apart current next others more is k
    by (Some w) is k = sized w is (ltb w.c 128) refl k

-- a pair that meets no ligature command
apart-becomes : (m : Metrics) (current next : Piece) (rest : List Piece) (others : List LigItem) → is_ligature (met_of m (code_of current) (code_of next)) ≡ false
    → Becomes m (next ∷ rest) others → Becomes m (current ∷ next ∷ rest) (items_of current ++ (kern_in (met_of m (code_of current) (code_of next)) ++ others))
apart-becomes m current next rest others not b = by (command m current next) refl not
  where
    sized : (w : Word) → command m current next ≡ Some w → (small : Bool) → ltb w.c 128 ≡ small → is_ligature (cond small Ligature (Kern (kern_of m w))) ≡ false
        → Becomes m (current ∷ next ∷ rest) (items_of current ++ (kern_in (cond small Ligature (Kern (kern_of m w))) ++ others))
    sized w is true e apart = absurd (true≢false apart)
    sized w is false e apart = Kerned current next rest others w is (ltb-false w.c 128 e) b

    by : (o : Option Word) → command m current next ≡ o → is_ligature (met_by m o) ≡ false → Becomes m (current ∷ next ∷ rest) (items_of current ++ (kern_in (met_by m o) ++ others))
    by None is apart = Apart current next rest others is b
    by (Some w) is apart = sized w is (ltb w.c 128) refl apart

-- what stands behind the pair stands behind what the step leaves
onward-parts : (met : Option Word) (current next : Piece) (others : List Piece) → onward met current next others ≡ onward met current next [] ++ others
onward-parts None current next others = refl
onward-parts (Some w) current next others = by (ltb w.c 128)
  where
    by : (b : Bool) → cond b (ahead w current next others) (next ∷ others) ≡ cond b (ahead w current next []) (next ∷ []) ++ others
    by true = ap (λ (l : List Piece). l ++ others) (sym (append-nil (drop (passes w) (in_place w current next))))
    by false = refl

onward-some : (met : Option Word) (current next : Piece) → 1 ≤ length (onward met current next [])
onward-some None current next = omega arith
onward-some (Some w) current next = by (ltb w.c 128)
  where
    by : (b : Bool) → 1 ≤ length (cond b (ahead w current next []) (next ∷ []))
    by true = ahead-some w current next []
    by false = omega arith

-- a step that was made leaves a piece at the cursor, and some before what stood behind the pair
record Stepped (m : Metrics) (current next : Piece) (rest : List Piece) (done : List LigItem) (cursor : Piece) (rest' : List Piece) (done' : List LigItem) : Type 0 where
  more : List Piece
  rest_is : rest' ≡ more ++ rest
  tells : (others : List Piece) (found : List LigItem) → Becomes m (cursor ∷ (more ++ others)) found → Becomes m (current ∷ next ∷ others) (finished m (command m current next) current next ++ found)
  done_is : done' ≡ done ++ finished m (command m current next) current next

stepped : {m : Metrics} {current next cursor : Piece} {rest rest' : List Piece} {done done' : List LigItem} → Moved m current next rest done cursor rest' done' → Stepped m current next rest done cursor rest' done'
stepped {m} {current} {next} {cursor} {rest} {rest'} {done} {done'} k = by (onward (command m current next) current next []) refl
  where
    by : (front : List Piece) → onward (command m current next) current next [] ≡ front → Stepped m current next rest done cursor rest' done'
    by [] e =
        let some = onward-some (command m current next) current next in
        let none : length (onward (command m current next) current next []) ≡ 0 = ap length e in
        absurd (omega (arith, some, none))
    by (piece ∷ more) e =
        let left_is : (others : List Piece) → onward (command m current next) current next others ≡ piece ∷ (more ++ others) =
        λ others. onward-parts (command m current next) current next others ∙ ap (λ (l : List Piece). l ++ others) e in
        let all : cursor ∷ rest' ≡ piece ∷ (more ++ rest) = k.ahead_is ∙ left_is rest in
        let first : cursor ≡ piece = cc all in
        record {
          more = more;
          rest_is = ap (drop 1) all;
          tells = λ others found b.
              step-becomes m current next others found
              (subst (λ (l : List Piece). Becomes m l found) (ap (λ (p : Piece). p ∷ (more ++ others)) first ∙ sym (left_is others)) b);
          done_is = k.done_is;
        }

-- ---- pieces that haven't been met

-- pieces of a word, of which some haven't been met: whatever stood in their stead, the same would have been done before
pub record Noting (m : Metrics) (left : Bool) (pieces : List Piece) (current : Piece) (rest : List Piece) (done : List LigItem) (fresh : ℕ) (seams : List Seam) : Type 0 where
  pub start : List Piece
  pub between : List Piece
  pub behind : List Piece
  pub rest_is : rest ≡ between ++ behind
  pub pieces_are : pieces ≡ start ++ behind
  pub some : 0 < length start
  pub fresh_is : fresh ≡ length behind
  pub tells : (others : List Piece) (found : List LigItem) → Becomes m (current ∷ (between ++ others)) found → Becomes m (start ++ others) (done ++ found)
  pub cuts : All (IsCut m left pieces) seams

boundary_few : (left : Bool) → boundary_count left ≤ 1
boundary_few true = omega arith
boundary_few false = omega arith

-- fewer haven't been met than there are places
pub noting-within : {m : Metrics} {left : Bool} {pieces : List Piece} {current : Piece} {rest : List Piece} {done : List LigItem} {fresh : ℕ} {seams : List Seam}
    → Noting m left pieces current rest done fresh seams → (end : ℕ) → boundary_count left + end ≡ length pieces → fresh ≤ end
noting-within {left = left} g end size =
    let few = boundary_few left in
    let long = ap length g.pieces_are ∙ length-append g.start g.behind in
    omega (arith, few, long, size, g.fresh_is, g.some)

-- in the beginning
pub noting-begun : (m : Metrics) (left : Bool) (first : Piece) (rest : List Piece) (done : List LigItem) (fresh : ℕ) (seams : List Seam) → fresh ≤ length rest → done ≡ [] → seams ≡ []
    → Noting m left (first ∷ rest) first rest done fresh seams
noting-begun m left first rest done fresh seams within none empty =
    let met : ℕ = length rest - fresh in
    let parts : rest ≡ take met rest ++ drop met rest = sym (take-append-drop met rest) in
    let long = length-drop met rest in
    record {
      start = first ∷ take met rest;
      between = take met rest;
      behind = drop met rest;
      rest_is = parts;
      pieces_are = ap (λ (l : List Piece). first ∷ l) parts;
      some = omega arith;
      fresh_is = omega (arith, long, within);
      tells = λ others found b. subst (λ (d : List LigItem). Becomes m (first ∷ (take met rest ++ others)) (d ++ found)) (sym none) b;
      cuts = subst (All (IsCut m left (first ∷ rest))) (sym empty) (All-nil (IsCut m left (first ∷ rest)));
    }

-- a piece is met for the first time, and the pair shows a seam, if it meets no ligature command
cuts-met : (m : Metrics) (left : Bool) (pieces start : List Piece) (current next : Piece) (rest : List Piece) (done : List LigItem) (fresh end : ℕ)
    → pieces ≡ start ++ next ∷ rest → 0 < length start → fresh ≡ suc (length rest) → boundary_count left + end ≡ length pieces
    → ((others : List Piece) (found : List LigItem) → Becomes m (current ∷ others) found → Becomes m (start ++ others) (done ++ found))
    → All (IsCut m left pieces) (noted_by (met_of m (code_of current) (code_of next)) (end - fresh) (length done + length (items_of current)))
cuts-met m left pieces start current next rest done fresh end are some fresh_is size tells = by (met_of m (code_of current) (code_of next)) refl
  where
    place_is : boundary_count left + (end - fresh) ≡ length start
    place_is =
        let few = boundary_few left in
        let long = ap length are ∙ length-append start (next ∷ rest) in
        omega (arith, few, long, size, fresh_is, some)

    first : Becomes m start (done ++ items_of current)
    first = subst (λ (l : List Piece). Becomes m l (done ++ items_of current)) (append-nil start) (tells [] (items_of current) (Last current))

    cut : (met : Met) → met_of m (code_of current) (code_of next) ≡ met → is_ligature met ≡ false → (replaced : ℕ) → replaced ≡ length (kern_in met)
        → IsCut m left pieces (record { place = end - fresh; item = length done + length (items_of current); replaced = replaced })
    cut met is not replaced replaced_is = record {
      front = start;
      behind = next ∷ rest;
      are = are;
      some = some;
      more = omega arith;
      place_is = place_is;
      items = done ++ items_of current;
      first = first;
      item_is = sym (length-append done (items_of current));
      met = met;
      replaced_is = replaced_is;
      whole = λ others b.
          subst (λ (l : List Piece). Becomes m l ((done ++ items_of current) ++ (kern_in met ++ others))) (sym are)
          (subst (λ (d : List LigItem). Becomes m (start ++ next ∷ rest) d) (sym (append_assoc done (items_of current) (kern_in met ++ others)))
          (tells (next ∷ rest) (items_of current ++ (kern_in met ++ others))
          (subst (λ (x : Met). Becomes m (current ∷ next ∷ rest) (items_of current ++ (kern_in x ++ others))) is
          (apart-becomes m current next rest others (ap is_ligature is ∙ not) b))));
    }

    by : (met : Met) → met_of m (code_of current) (code_of next) ≡ met → All (IsCut m left pieces) (noted_by met (end - fresh) (length done + length (items_of current)))
    by Nothing is = All-cons (IsCut m left pieces) _ [] (cut Nothing is refl 0 refl) (All-nil (IsCut m left pieces))
    by (Kern size) is = All-cons (IsCut m left pieces) _ [] (cut (Kern size) is refl 1 refl) (All-nil (IsCut m left pieces))
    by Ligature is = All-nil (IsCut m left pieces)

-- one step more
pub noting-moved : {m : Metrics} {left : Bool} {pieces : List Piece} {current next cursor : Piece} {rest rest' : List Piece} {done done' : List LigItem} {fresh : ℕ} {seams : List Seam}
    → Noting m left pieces current (next ∷ rest) done fresh seams → Moved m current next rest done cursor rest' done' → (end : ℕ) → boundary_count left + end ≡ length pieces
    → Noting m left pieces cursor rest' done' (min fresh (length rest)) (seams ++ seen m current next fresh (length rest) end (length done))
noting-moved {m} {left} {pieces} {current} {next} {cursor} {rest} {rest'} {done} {done'} {fresh} {seams} g k end size = by g.between g.rest_is g.tells
  where
    s : Stepped m current next rest done cursor rest' done'
    s = stepped k

    passing : List LigItem
    passing = finished m (command m current next) current next

    new : List Seam
    new = noted_by (met_of m (code_of current) (code_of next)) (end - fresh) (length done + length (items_of current))

    joined : (found : List LigItem) → done ++ (passing ++ found) ≡ done' ++ found
    joined found = sym (append_assoc done passing found) ∙ ap (λ (d : List LigItem). d ++ found) (sym s.done_is)

    by : (between : List Piece) → next ∷ rest ≡ between ++ g.behind → ((others : List Piece) (found : List LigItem) → Becomes m (current ∷ (between ++ others)) found → Becomes m (g.start ++ others) (done ++ found))
        → Noting m left pieces cursor rest' done' (min fresh (length rest)) (seams ++ cond (leb fresh (length rest)) [] new)
    by [] e tells =
        let count : fresh ≡ suc (length rest) = g.fresh_is ∙ ap length (sym e) in
        let are : pieces ≡ g.start ++ next ∷ rest = g.pieces_are ∙ ap (λ (l : List Piece). g.start ++ l) (sym e) in
        let long = length-append g.start (next ∷ []) in
        record {
          start = g.start ++ next ∷ [];
          between = s.more;
          behind = rest;
          rest_is = s.rest_is;
          pieces_are = are ∙ sym (append_assoc g.start (next ∷ []) rest);
          some = omega (arith, long);
          fresh_is = omega (arith, count);
          tells = λ others found b.
              subst (λ (l : List Piece). Becomes m l (done' ++ found)) (sym (append_assoc g.start (next ∷ []) others))
              (subst (λ (d : List LigItem). Becomes m (g.start ++ next ∷ others) d) (joined found)
              (tells (next ∷ others) (passing ++ found) (s.tells others found b)));
          cuts =
              subst (λ (b : Bool). All (IsCut m left pieces) (seams ++ cond b [] new)) (sym (lt-leb fresh (length rest) (omega (arith, count))))
              (All-append (IsCut m left pieces) seams new g.cuts (cuts-met m left pieces g.start current next rest done fresh end are g.some count size tells));
        }
    by (x ∷ between) e tells =
        let parts : next ∷ rest ≡ x ∷ (between ++ g.behind) = e in
        let head : next ≡ x = cc parts in
        let tail : rest ≡ between ++ g.behind = ap (drop 1) parts in
        let long = ap length tail ∙ length-append between g.behind in
        let behind : fresh ≤ length rest = omega (arith, long, g.fresh_is) in
        record {
          start = g.start;
          between = s.more ++ between;
          behind = g.behind;
          rest_is = s.rest_is ∙ ap (λ (l : List Piece). s.more ++ l) tail ∙ sym (append_assoc s.more between g.behind);
          pieces_are = g.pieces_are;
          some = g.some;
          fresh_is = omega (arith, behind, g.fresh_is);
          tells = λ others found b.
              subst (λ (d : List LigItem). Becomes m (g.start ++ others) d) (joined found)
              (tells others (passing ++ found)
              (subst (λ (y : Piece). Becomes m (current ∷ y ∷ (between ++ others)) (passing ++ found)) head
              (s.tells (between ++ others) found
              (subst (λ (l : List Piece). Becomes m (cursor ∷ l) found) (append_assoc s.more between others) b))));
          cuts =
              subst (λ (b : Bool). All (IsCut m left pieces) (seams ++ cond b [] new)) (sym (le-leb fresh (length rest) behind))
              (subst (All (IsCut m left pieces)) (sym (append-nil seams)) g.cuts);
        }

-- ---- the characters on both sides of a seam

-- the first pieces of characters are those of the first ones
letters : (front behind : List Piece) (chars : List ℕ) (right : Bool) → map (λ c. Char c) chars ++ boundary right ≡ front ++ behind → 0 < length behind
    → (front ≡ map (λ c. Char c) (take (length front) chars)) × (behind ≡ map (λ c. Char c) (drop (length front) chars) ++ boundary right)
letters [] behind chars right e some = (refl, sym e)
letters (f ∷ front) behind [] right e some = absurd (by right e)
  where
    by : (b : Bool) → boundary b ≡ (f ∷ front) ++ behind → ⊥
    by true h = let long : 1 ≡ length ((f ∷ front) ++ behind) = ap length h in let parts = length-append (f ∷ front) behind in omega (arith, long, parts, some)
    by false h = let long : 0 ≡ length ((f ∷ front) ++ behind) = ap length h in let parts = length-append (f ∷ front) behind in omega (arith, long, parts, some)
letters (f ∷ front) behind (c ∷ chars) right e some =
    let parts : Char c ∷ (map (λ c. Char c) chars ++ boundary right) ≡ f ∷ (front ++ behind) = e in
    let head : Char c ≡ f = cc parts in
    let tail : map (λ c. Char c) chars ++ boundary right ≡ front ++ behind = ap (drop 1) parts in
    let k = letters front behind chars right tail some in
    ((λ i. sym head i ∷ k.0 i), k.1)

record Parts (chars : List ℕ) (left right : Bool) (place : ℕ) (front behind : List Piece) : Type 0 where
  front_is : front ≡ word_of (take place chars) left false
  behind_is : behind ≡ word_of (drop place chars) false right

parts-of : (chars : List ℕ) (left right : Bool) (place : ℕ) (front behind : List Piece) → word_of chars left right ≡ front ++ behind → 0 < length front → 0 < length behind → boundary_count left + place ≡ length front
    → Parts chars left right place front behind
parts-of chars false right place front behind e some more place_is =
    let k = letters front behind chars right e more in
    let n : length front ≡ place = omega (arith, place_is) in
    record {
      front_is = k.0 ∙ sym (append-nil (map (λ c. Char c) (take (length front) chars))) ∙ ap (λ (j : ℕ). word_of (take j chars) false false) n;
      behind_is = k.1 ∙ ap (λ (j : ℕ). word_of (drop j chars) false right) n;
    }
parts-of chars true right place [] behind e some more place_is = absurd (omega (arith, some))
parts-of chars true right place (f ∷ front) behind e some more place_is =
    let parts : Boundary ∷ (map (λ c. Char c) chars ++ boundary right) ≡ f ∷ (front ++ behind) = e in
    let head : Boundary ≡ f = cc parts in
    let tail : map (λ c. Char c) chars ++ boundary right ≡ front ++ behind = ap (drop 1) parts in
    let k = letters front behind chars right tail more in
    let n : length front ≡ place = omega (arith, place_is) in
    record {
      front_is = (λ i. sym head i ∷ (k.0 ∙ sym (append-nil (map (λ c. Char c) (take (length front) chars)))) i) ∙ ap (λ (j : ℕ). word_of (take j chars) true false) n;
      behind_is = k.1 ∙ ap (λ (j : ℕ). word_of (drop j chars) false right) n;
    }

-- what is a seam of a word's pieces is one of the word
pub cut-is_seam : (m : Metrics) (chars : List ℕ) (left right : Bool) → IsSound m → All (λ c. IsTrue (is_there m.file c)) chars → (seam : Seam) → IsCut m left (word_of chars left right) seam → IsSeam m chars left right seam
cut-is_seam m chars left right sound all seam c =
    let there : ℕ → Type 0 = λ code. IsTrue (is_there m.file code) in
    let p = parts-of chars left right seam.place c.front c.behind c.are c.some c.more c.place_is in
    let before : List LigItem = composed m (take seam.place chars) left false in
    let others : List LigItem = composed m (drop seam.place chars) false right in
    let first : Becomes m (word_of (take seam.place chars) left false) c.items = subst (λ (l : List Piece). Becomes m l c.items) p.front_is c.first in
    let same : before ≡ c.items =
    once m (word_of (take seam.place chars) left false) before (composed-is m (take seam.place chars) left false sound (All-take there seam.place chars all)) c.items first in
    let behind : Becomes m c.behind others =
    subst (λ (l : List Piece). Becomes m l others) (sym p.behind_is) (composed-is m (drop seam.place chars) false right sound (All-drop there seam.place chars all)) in
    record {
      met = c.met;
      replaced_is = c.replaced_is;
      item_is = c.item_is ∙ ap length (sym same);
      whole_is =
          once m (word_of chars left right) (composed m chars left right) (composed-is m chars left right sound all) (c.items ++ (kern_in c.met ++ others)) (c.whole others behind)
          ∙ ap (λ (l : List LigItem). l ++ (kern_in c.met ++ others)) (sym same);
    }
