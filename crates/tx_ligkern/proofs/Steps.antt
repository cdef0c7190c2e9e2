-- The steps of composing a word, and how many commands are left.
use Rattle.std.proofs.Common.{◌≡◌, ℕ, zero, suc, ◌+◌, ◌-◌, ◌*◌, ◌<◌, ◌≤◌, Bool, true, false, cond, ltb, Option, Some, None, List, [], ◌∷◌, ◌++◌, length, map, reverse, refl, sym, ap, subst, ◌∙◌, append_assoc, arith}
use Rattle.std.specs.Prelude.{if◌then◌else◌, All, IsTrue}
use Rattle.std.specs.List.{AllByRecursion}
use Rattle.std.proofs.lemmas.Bool.{ltb-true, ltb-false, true≢false}
use Rattle.std.proofs.lemmas.List.{length-map, reverse-append, reverse-reverse}
use Rattle.std.proofs.lemmas.List.Elements.{recursion_from_All}
use Rattle.tx_tfm.specs.declared.file.Tfm.{Tfm}
use Rattle.tx_tfm.specs.declared.file.Word.{Word}
use Rattle.tx_tfm.specs.declared.metrics.Metrics.{Metrics}
use Rattle.tx_tfm.specs.Format.{is_there}
use Rattle.tx_tfm.specs.LigKern.{command_of}
use Rattle.tx_tfm.specs.Metrics.{kern_of}
use Rattle.tx_tfm.specs.Rewriting.{after_command, ends_within, first_pair, is_empty, ligature_of, rewritten}
use Rattle.tx_tfm.specs.Sound.{IsSound}
use Rattle.tx_tfm.proofs.Endings.{ends_within-pass, ends_within-command, ends_within-spent}
use Rattle.tx_ligkern.specs.declared.item.LigItem.{LigItem}
use Rattle.tx_ligkern.specs.declared.item.LigItem.TheVariants.{Kern}
use Rattle.tx_ligkern.specs.declared.piece.Piece.{Piece}
use Rattle.tx_ligkern.specs.declared.piece.Piece.TheVariants.{Boundary, Char}
use Rattle.tx_ligkern.specs.Pieces.{code_of, items_of, word_of}
use Rattle.tx_ligkern.specs.Composing.{ahead, passed, AllWordsEnd, Becomes, Empty, Last, Apart, Kerned, Joined}
use Rattle.tx_ligkern.specs.Steps.{finished, most_commands, onward, Carried, Ends, Moved}
use Rattle.tx_ligkern.proofs.Rewritten.{length-ahead-le, map-ahead}
use Rattle.tx_ligkern.proofs.Runs.{AllThere, command-is_ligature, ends_more, kern-is_no_ligature, none-is_no_ligature, word_ends}

-- how many ligature commands come from here on, n at most
pub left_of : Tfm → ℕ → List (Option ℕ) → ℕ
left_of t zero list = 0
left_of t (suc n) list = if is_empty (first_pair t list) then 0 else suc (left_of t n (after_command t (first_pair t list)))

first_pair-pass : (t : Tfm) (x y : Option ℕ) (r : List (Option ℕ)) → ligature_of t x y ≡ None → first_pair t (x ∷ y ∷ r) ≡ first_pair t (y ∷ r)
unfolding first_pair
first_pair-pass t x y r e = rw e refl

first_pair-stay : (t : Tfm) (x y : Option ℕ) (r : List (Option ℕ)) (w : Word) → ligature_of t x y ≡ Some w → first_pair t (x ∷ y ∷ r) ≡ x ∷ y ∷ r
unfolding first_pair
first_pair-stay t x y r w e = rw e refl

after_command-by : (t : Tfm) (x y : Option ℕ) (r : List (Option ℕ)) (w : Word) → ligature_of t x y ≡ Some w → after_command t (x ∷ y ∷ r) ≡ rewritten w x y r
unfolding after_command
after_command-by t x y r w e = rw e refl

-- what can't come any more isn't counted
left_of-enough : (t : Tfm) (n : ℕ) (list : List (Option ℕ)) → ends_within t n list ≡ true → left_of t (suc n) list ≡ left_of t n list
unfolding left_of ends_within
left_of-enough t zero list e = ap (λ (b : Bool). cond b 0 (suc (left_of t 0 (after_command t (first_pair t list))))) e
left_of-enough t (suc n) list e =
    ap (λ (k : ℕ). cond (is_empty (first_pair t list)) 0 (suc k)) (left_of-enough t n (after_command t (first_pair t list)) e)

left_of-pass : (t : Tfm) (n : ℕ) (x y : Option ℕ) (r : List (Option ℕ)) → ligature_of t x y ≡ None → left_of t n (x ∷ y ∷ r) ≡ left_of t n (y ∷ r)
unfolding left_of
left_of-pass t zero x y r e = refl
left_of-pass t (suc n) x y r e = ap (λ (l : List (Option ℕ)). cond (is_empty l) 0 (suc (left_of t n (after_command t l)))) (first_pair-pass t x y r e)

left_of-command : (t : Tfm) (n : ℕ) (x y : Option ℕ) (r : List (Option ℕ)) (w : Word) → ligature_of t x y ≡ Some w → left_of t (suc n) (x ∷ y ∷ r) ≡ suc (left_of t n (rewritten w x y r))
unfolding left_of
left_of-command t n x y r w e =
    ap (λ (l : List (Option ℕ)). cond (is_empty l) 0 (suc (left_of t n (after_command t l)))) (first_pair-stay t x y r w e)
    ∙ ap (λ (l : List (Option ℕ)). suc (left_of t n l)) (after_command-by t x y r w e)

-- after a command it still ends, and one less is left
record Spends (t : Tfm) (n : ℕ) (x y : Option ℕ) (r : List (Option ℕ)) (w : Word) : Type 0 where
  ends : ends_within t n (rewritten w x y r) ≡ true
  left : left_of t n (x ∷ y ∷ r) ≡ suc (left_of t n (rewritten w x y r))

spends : (t : Tfm) (n : ℕ) (x y : Option ℕ) (r : List (Option ℕ)) (w : Word) → ligature_of t x y ≡ Some w → ends_within t n (x ∷ y ∷ r) ≡ true → Spends t n x y r w
spends t zero x y r w is e = absurd (true≢false (sym e ∙ ends_within-spent t x y r w is))
spends t (suc n) x y r w is e =
    let less : suc n - 1 ≡ n = omega arith in
    let after : ends_within t n (rewritten w x y r) ≡ true = sym (ends_within-command t (suc n) x y r w (omega arith) is ∙ ap (λ (k : ℕ). ends_within t k (rewritten w x y r)) less) ∙ e in
    let one : 1 + n ≡ suc n = omega arith in
    record {
      ends = ap (λ (k : ℕ). ends_within t k (rewritten w x y r)) (sym one) ∙ ends_more t n 1 (rewritten w x y r) after;
      left = left_of-command t n x y r w is ∙ ap suc (sym (left_of-enough t n (rewritten w x y r) after));
    }

-- a word is being composed: what becomes of the rest tells what becomes of the whole
pub record Going (m : Metrics) (start : List Piece) (limit : ℕ) (current : Piece) (rest : List Piece) (done : List LigItem) : Type 0 where
  pub tells : (items : List LigItem) → Becomes m (current ∷ rest) items → Becomes m start (done ++ items)
  pub ends : ends_within m.file limit (map code_of (current ∷ rest)) ≡ true

-- the commands that are left, each of which puts one piece more at most behind the cursor, and the pieces there
pub measure : Metrics → ℕ → Piece → List Piece → ℕ
measure m limit current rest = 2 * left_of m.file limit (map code_of (current ∷ rest)) + length rest

-- no more commands are left than were allowed
left_of-le : (t : Tfm) (n : ℕ) (list : List (Option ℕ)) → left_of t n list ≤ n
unfolding left_of
left_of-le t zero list = omega arith
left_of-le t (suc n) list = by (is_empty (first_pair t list)) (left_of-le t n (after_command t (first_pair t list)))
  where
    by : (b : Bool) → left_of t n (after_command t (first_pair t list)) ≤ n → cond b 0 (suc (left_of t n (after_command t (first_pair t list)))) ≤ suc n
    by true less = omega arith
    by false less = omega (arith, less)

pub measure-le : (m : Metrics) (limit : ℕ) (current : Piece) (rest : List Piece) → measure m limit current rest ≤ 2 * limit + length rest
unfolding measure
measure-le m limit current rest = let l = left_of-le m.file limit (map code_of (current ∷ rest)) in omega (arith, l)

pub going-apart : {m : Metrics} {start : List Piece} {limit : ℕ} {current next : Piece} {rest : List Piece} {done : List LigItem}
    → Going m start limit current (next ∷ rest) done → command_of m.file (code_of current) (code_of next) ≡ None
    → Going m start limit next rest (done ++ items_of current)
going-apart {m} {start} {limit} {current} {next} {rest} {done} g none = record {
  tells = λ items b. subst (λ (x : List LigItem). Becomes m start x) (sym (append_assoc done (items_of current) items)) (g.tells (items_of current ++ items) (Apart current next rest items none b));
  ends = sym (ends_within-pass m.file limit (code_of current) (code_of next) (map code_of rest) (none-is_no_ligature m.file (code_of current) (code_of next) none)) ∙ g.ends;
}

pub going-kerned : {m : Metrics} {start : List Piece} {limit : ℕ} {current next : Piece} {rest : List Piece} {done : List LigItem} {w : Word}
    → Going m start limit current (next ∷ rest) done → command_of m.file (code_of current) (code_of next) ≡ Some w → 128 ≤ w.c
    → Going m start limit next rest ((done ++ items_of current) ++ Kern (kern_of m w) ∷ [])
going-kerned {m} {start} {limit} {current} {next} {rest} {done} {w} g is great = record {
  tells = λ items b.
      let e : done ++ (items_of current ++ Kern (kern_of m w) ∷ items) ≡ ((done ++ items_of current) ++ Kern (kern_of m w) ∷ []) ++ items =
      sym (append_assoc done (items_of current) (Kern (kern_of m w) ∷ items)) ∙ sym (append_assoc (done ++ items_of current) (Kern (kern_of m w) ∷ []) items) in
      subst (λ (x : List LigItem). Becomes m start x) e (g.tells (items_of current ++ Kern (kern_of m w) ∷ items) (Kerned current next rest items w is great b));
  ends = sym (ends_within-pass m.file limit (code_of current) (code_of next) (map code_of rest) (kern-is_no_ligature m.file (code_of current) (code_of next) w is great)) ∙ g.ends;
}

pub going-joined : {m : Metrics} {start : List Piece} {limit : ℕ} {current next cursor : Piece} {rest rest' : List Piece} {done done' : List LigItem} {w : Word}
    → Going m start limit current (next ∷ rest) done → command_of m.file (code_of current) (code_of next) ≡ Some w → w.c < 128
    → Carried w current next rest done cursor rest' done' → Going m start limit cursor rest' done'
going-joined {m} {start} {limit} {current} {next} {cursor} {rest} {rest'} {done} {done'} {w} g is small k =
    let spent = spends m.file limit (code_of current) (code_of next) (map code_of rest) w (command-is_ligature m.file (code_of current) (code_of next) w is small) g.ends in
    record {
      tells = λ items b.
          let b' : Becomes m (ahead w current next rest) items = subst (λ (x : List Piece). Becomes m x items) k.ahead_is b in
          let e : done ++ (passed w current next ++ items) ≡ done' ++ items = sym (append_assoc done (passed w current next) items) ∙ ap (λ (x : List LigItem). x ++ items) (sym k.done_is) in
          subst (λ (x : List LigItem). Becomes m start x) e (g.tells (passed w current next ++ items) (Joined current next rest items w is small b'));
      ends = ap (λ (x : List Piece). ends_within m.file limit (map code_of x)) k.ahead_is ∙ ap (λ (x : List (Option ℕ)). ends_within m.file limit x) (map-ahead w current next rest) ∙ spent.ends;
    }

pub going-over : {m : Metrics} {start : List Piece} {limit : ℕ} {current : Piece} {done : List LigItem} → Going m start limit current [] done → Becomes m start (done ++ items_of current)
going-over {m} {start} {limit} {current} {done} g = g.tells (items_of current) (Last current)

-- passing over a piece leaves one less behind the cursor
pub measure-pass : {m : Metrics} {start : List Piece} {limit : ℕ} {current next : Piece} {rest : List Piece} {done : List LigItem}
    → Going m start limit current (next ∷ rest) done → ligature_of m.file (code_of current) (code_of next) ≡ None
    → measure m limit next rest < measure m limit current (next ∷ rest)
unfolding measure
measure-pass {m} {start} {limit} {current} {next} {rest} {done} g none =
    omega (arith, left_of-pass m.file limit (code_of current) (code_of next) (map code_of rest) none)

pub measure-joined : {m : Metrics} {start : List Piece} {limit : ℕ} {current next cursor : Piece} {rest rest' : List Piece} {done done' : List LigItem} {w : Word}
    → Going m start limit current (next ∷ rest) done → command_of m.file (code_of current) (code_of next) ≡ Some w → w.c < 128
    → Carried w current next rest done cursor rest' done' → measure m limit cursor rest' < measure m limit current (next ∷ rest)
unfolding measure
measure-joined {m} {start} {limit} {current} {next} {cursor} {rest} {rest'} {done} {done'} {w} g is small k =
    let spent = spends m.file limit (code_of current) (code_of next) (map code_of rest) w (command-is_ligature m.file (code_of current) (code_of next) w is small) g.ends in
    let same : left_of m.file limit (map code_of (cursor ∷ rest')) ≡ left_of m.file limit (rewritten w (code_of current) (code_of next) (map code_of rest)) =
    ap (λ (x : List Piece). left_of m.file limit (map code_of x)) k.ahead_is ∙ ap (left_of m.file limit) (map-ahead w current next rest) in
    let short : length (cursor ∷ rest') ≤ 3 + length rest = subst (λ (x : List Piece). length x ≤ 3 + length rest) (sym k.ahead_is) (length-ahead-le w current next rest) in
    omega (arith, spent.left, same, short)

AllThere-chars : (t : Tfm) (chars : List ℕ) → AllByRecursion (λ c. IsTrue (is_there t c)) chars → (rest : List Piece) → AllThere t (map code_of rest) → AllThere t (map code_of (map (λ c. Char c) chars ++ rest))
AllThere-chars t [] h rest there = there
AllThere-chars t (c ∷ chars) h rest there = (h.0, AllThere-chars t chars h.1 rest there)

AllThere-word : (t : Tfm) (chars : List ℕ) (left right : Bool) → AllByRecursion (λ c. IsTrue (is_there t c)) chars → AllThere t (map code_of (word_of chars left right))
AllThere-word t chars true true h = (refl, AllThere-chars t chars h (Boundary ∷ []) (refl, tt))
AllThere-word t chars true false h = (refl, AllThere-chars t chars h [] tt)
AllThere-word t chars false true h = AllThere-chars t chars h (Boundary ∷ []) (refl, tt)
AllThere-word t chars false false h = AllThere-chars t chars h [] tt

-- a word whose characters are there ends
pub word-ends : (m : Metrics) (current : Piece) (rest : List Piece) (chars : List ℕ) (left right : Bool) → IsSound m → All (λ c. IsTrue (is_there m.file c)) chars
    → word_of chars left right ≡ current ∷ rest → Ends m (current ∷ rest)
unfolding most_commands
word-ends m current rest chars left right sound all e =
    let there : AllThere m.file (map code_of (current ∷ rest)) = subst (λ (x : List Piece). AllThere m.file (map code_of x)) e (AllThere-word m.file chars left right (recursion_from_All (λ c. IsTrue (is_there m.file c)) chars all)) in
    let ends = ends_more m.file (1000 * length (map code_of rest)) 1000 (map code_of (current ∷ rest)) (word_ends m sound (code_of current) (map code_of rest) there) in
    let same : most_commands (current ∷ rest) ≡ 1000 + 1000 * length (map code_of rest) = omega (arith, length-map rest code_of) in
    ap (λ (n : ℕ). ends_within m.file n (map code_of (current ∷ rest))) same ∙ ends

-- in the beginning nothing is done
pub going-begun : {m : Metrics} {current : Piece} {rest : List Piece} → Ends m (current ∷ rest) → Going m (current ∷ rest) (most_commands (current ∷ rest)) current rest []
going-begun {m} {current} {rest} ends = record { tells = λ items b. b; ends = ends }

-- a step, by the command that the pair meets
pub going-moved : {m : Metrics} {start : List Piece} {limit : ℕ} {current next cursor : Piece} {rest rest' : List Piece} {done done' : List LigItem}
    → Going m start limit current (next ∷ rest) done → Moved m current next rest done cursor rest' done'
    → Going m start limit cursor rest' done' × (measure m limit cursor rest' < measure m limit current (next ∷ rest))
going-moved {m} {start} {limit} {current} {next} {cursor} {rest} {rest'} {done} {done'} g k =
    by (command_of m.file (code_of current) (code_of next)) refl k.ahead_is k.done_is
  where
    -- the cursor stands at the next piece now
    onto : (items : List LigItem) → ligature_of m.file (code_of current) (code_of next) ≡ None → Going m start limit next rest items → cursor ∷ rest' ≡ next ∷ rest → done' ≡ items
        → Going m start limit cursor rest' done' × (measure m limit cursor rest' < measure m limit current (next ∷ rest))
    onto items none going ahead_is done_is =
        let same : cursor ≡ next = cc in
        let others : rest' ≡ rest = cc in (
          (λ (c : Piece) (r : List Piece) (d : List LigItem) (p : c ≡ next) (q : r ≡ rest) (e : d ≡ items).
              subst (λ (x : Piece). Going m start limit x r d) (sym p) (subst (λ (x : List Piece). Going m start limit next x d) (sym q) (subst (λ (x : List LigItem). Going m start limit next rest x) (sym e) going)))
              cursor rest' done' same others done_is,
          subst (λ (x : Piece). measure m limit x rest' < measure m limit current (next ∷ rest)) (sym same)
              (subst (λ (x : List Piece). measure m limit next x < measure m limit current (next ∷ rest)) (sym others) (measure-pass g none)),
        )

    sized : (w : Word) → command_of m.file (code_of current) (code_of next) ≡ Some w → (b : Bool) → ltb w.c 128 ≡ b
        → cursor ∷ rest' ≡ cond b (ahead w current next rest) (next ∷ rest) → done' ≡ done ++ cond b (passed w current next) (items_of current ++ Kern (kern_of m w) ∷ [])
        → Going m start limit cursor rest' done' × (measure m limit cursor rest' < measure m limit current (next ∷ rest))
    sized w is true small ahead_is done_is =
        let carried : Carried w current next rest done cursor rest' done' = record { ahead_is = ahead_is; done_is = done_is } in
        (going-joined g is (ltb-true w.c 128 small) carried, measure-joined g is (ltb-true w.c 128 small) carried)
    sized w is false great ahead_is done_is =
        onto ((done ++ items_of current) ++ Kern (kern_of m w) ∷ []) (kern-is_no_ligature m.file (code_of current) (code_of next) w is (ltb-false w.c 128 great)) (going-kerned g is (ltb-false w.c 128 great)) ahead_is
        (done_is ∙ sym (append_assoc done (items_of current) (Kern (kern_of m w) ∷ [])))

    by : (o : Option Word) → command_of m.file (code_of current) (code_of next) ≡ o → cursor ∷ rest' ≡ onward o current next rest → done' ≡ done ++ finished m o current next
        → Going m start limit cursor rest' done' × (measure m limit cursor rest' < measure m limit current (next ∷ rest))
    by None is ahead_is done_is = onto (done ++ items_of current) (none-is_no_ligature m.file (code_of current) (code_of next) is) (going-apart g is) ahead_is done_is
    by (Some w) is ahead_is done_is = sized w is (ltb w.c 128) refl ahead_is done_is

-- a list whose last element was taken, from its end
pub reverse-push : (xs ys : List Piece) (x : Piece) → xs ≡ ys ++ x ∷ [] → reverse xs ≡ x ∷ reverse ys
reverse-push xs ys x e = ap reverse e ∙ reverse-append ys (x ∷ [])

pub no_pieces : (xs : List Piece) → length xs ≡ 0 → xs ≡ []
no_pieces [] h = refl
no_pieces (x ∷ xs) h = absurd (omega arith)

-- a word from its end, and the first piece taken off it
pub first_taken : (pieces backwards popped : List Piece) (x : Piece) → backwards ≡ reverse pieces → backwards ≡ popped ++ x ∷ [] → pieces ≡ x ∷ reverse popped
first_taken pieces backwards popped x e h = sym (reverse-reverse pieces) ∙ reverse-push (reverse pieces) popped x (sym e ∙ h)

pub nothing_taken : (pieces backwards : List Piece) → backwards ≡ reverse pieces → backwards ≡ [] → pieces ≡ []
nothing_taken pieces backwards e h = sym (reverse-reverse pieces) ∙ ap reverse (sym e ∙ h)

-- what is known with one command less
Prior : Metrics → ℕ → Type 0
Prior m zero = Unit {0}
Prior m (suc n) = (pieces : List Piece) → ends_within m.file n (map code_of pieces) ≡ true → (items : List LigItem) × Becomes m pieces items

becomes-next : (m : Metrics) (n : ℕ) → Prior m n → (pieces : List Piece) → ends_within m.file n (map code_of pieces) ≡ true → (items : List LigItem) × Becomes m pieces items
unfolding Prior
becomes-next m n prior [] e = ([], Empty)
becomes-next m n prior (piece ∷ []) e = (items_of piece, Last piece)
becomes-next m n prior (current ∷ next ∷ rest) e =
    by (λ none. becomes-next m n prior (next ∷ rest) (sym (ends_within-pass m.file n (code_of current) (code_of next) (map code_of rest) none) ∙ e))
    (command_of m.file (code_of current) (code_of next)) refl
  where
    joined : (k : ℕ) → Prior m k → (w : Word) → command_of m.file (code_of current) (code_of next) ≡ Some w → w.c < 128
        → ends_within m.file k (map code_of (current ∷ next ∷ rest)) ≡ true → (items : List LigItem) × Becomes m (current ∷ next ∷ rest) items
    joined zero prior w is small e =
        absurd (true≢false (sym e ∙ ends_within-spent m.file (code_of current) (code_of next) (map code_of rest) w (command-is_ligature m.file (code_of current) (code_of next) w is small)))
    joined (suc k) prior w is small e =
        let less : suc k - 1 ≡ k = omega arith in
        let after : ends_within m.file k (map code_of (ahead w current next rest)) ≡ true =
        ap (λ (l : List (Option ℕ)). ends_within m.file k l) (map-ahead w current next rest)
        ∙ sym (ends_within-command m.file (suc k) (code_of current) (code_of next) (map code_of rest) w (omega arith) (command-is_ligature m.file (code_of current) (code_of next) w is small)
        ∙ ap (λ (j : ℕ). ends_within m.file j (rewritten w (code_of current) (code_of next) (map code_of rest))) less)
        ∙ e in
        let found = prior (ahead w current next rest) after in
        (passed w current next ++ found.0, Joined current next rest found.0 w is small found.1)

    sized : (ligature_of m.file (code_of current) (code_of next) ≡ None → (items : List LigItem) × Becomes m (next ∷ rest) items)
        → (w : Word) → command_of m.file (code_of current) (code_of next) ≡ Some w → (b : Bool) → ltb w.c 128 ≡ b → (items : List LigItem) × Becomes m (current ∷ next ∷ rest) items
    sized others w is true small = joined n prior w is (ltb-true w.c 128 small) e
    sized others w is false great =
        let found = others (kern-is_no_ligature m.file (code_of current) (code_of next) w is (ltb-false w.c 128 great)) in
        (items_of current ++ Kern (kern_of m w) ∷ found.0, Kerned current next rest found.0 w is (ltb-false w.c 128 great) found.1)

    by : (ligature_of m.file (code_of current) (code_of next) ≡ None → (items : List LigItem) × Becomes m (next ∷ rest) items)
        → (o : Option Word) → command_of m.file (code_of current) (code_of next) ≡ o → (items : List LigItem) × Becomes m (current ∷ next ∷ rest) items
    by others None is =
        let found = others (none-is_no_ligature m.file (code_of current) (code_of next) is) in
        (items_of current ++ found.0, Apart current next rest found.0 is found.1)
    by others (Some w) is = sized others w is (ltb w.c 128) refl

becomes-some : (m : Metrics) (n : ℕ) (pieces : List Piece) → ends_within m.file n (map code_of pieces) ≡ true → (items : List LigItem) × Becomes m pieces items
unfolding Prior
becomes-some m zero = becomes-next m zero tt
becomes-some m (suc n) = becomes-next m (suc n) (becomes-some m n)

-- each word of characters that are there becomes something
pub words_end : (m : Metrics) → IsSound m → AllWordsEnd m
words_end m sound chars left right all = by (word_of chars left right) refl
  where
    by : (word : List Piece) → word_of chars left right ≡ word → (items : List LigItem) × Becomes m (word_of chars left right) items
    by [] e = ([], subst (λ (w : List Piece). Becomes m w []) (sym e) Empty)
    by (current ∷ rest) e =
        let found = becomes-some m (most_commands (current ∷ rest)) (current ∷ rest) (word-ends m current rest chars left right sound all e) in
        (found.0, subst (λ (w : List Piece). Becomes m w found.0) (sym e) found.1)
