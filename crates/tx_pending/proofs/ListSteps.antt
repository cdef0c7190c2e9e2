-- Reading a list.
use Rattle.std.proofs.Common.{◌≡◌, ◌≢◌, ℕ, ◌+◌, ◌-◌, ◌≤◌, ◌<◌, Bool, true, false, List, [], ◌∷◌, length, take, drop, refl, ap, sym, ◌∙◌, arith, leb, leb-true, le-leb, IsTrue, ◌↔◌, Option, Some, None, get_or, slice_get, subst, zero, suc, add-one}
use Rattle.std.proofs.Math.Seq.{drop-cons}
use Rattle.std.proofs.lemmas.List.{drop-drop, drop-take, length-drop, length-take-le, take_rest}
use Rattle.tx_char.specs.declared.tokens.Token.{Token}
use Rattle.tx_lex.specs.declared.types.ReadState.{ReadState}
use Rattle.tx_pending.specs.declared.source.Source.{Source}
use Rattle.tx_pending.specs.declared.source.Source.TheVariants.{List as Source_list, Line as Source_line, Held as Source_held, PartEnd as Source_part}
use Rattle.tx_pending.specs.declared.next.ColumnPart.{ColumnPart}
use Rattle.tx_pending.specs.Elements.{Element, Held, PartEnd, Unread, begins_entry, list_elements}
use Rattle.tx_pending.specs.Sources.{elements_of}
use Rattle.tx_pending.specs.Tails.{ListTail, LineTail}

-- the first of the tokens that are left, and those behind it
pub left-cons : (tokens : List Token) (read end : ℕ) (t : Token) → read < end → end ≤ length tokens → t ≡ get_or tokens read t → take (end - read) (drop read tokens) ≡ t ∷ take (end - (read + 1)) (drop (read + 1) tokens)
left-cons tokens read end t less within is =
    let n : end - read ≡ suc (end - (read + 1)) = omega arith in
    let e : drop read tokens ≡ t ∷ drop (read + 1) tokens = drop-cons tokens read t (omega arith) ∙ ap (λ x. x ∷ drop (suc read) tokens) (sym is) ∙ ap (λ k. t ∷ drop k tokens) (sym (add-one read)) in
    ap (λ k. take k (drop read tokens)) n ∙ ap (take (suc (end - (read + 1)))) e

-- those behind the first, if one is left
pub left-passed : (tokens : List Token) (read end : ℕ) → read < end → take (end - (read + 1)) (drop (read + 1) tokens) ≡ drop 1 (take (end - read) (drop read tokens))
left-passed tokens read end less =
    let n : end - read ≡ 1 + (end - (read + 1)) = omega arith in
    ap (take (end - (read + 1))) (sym (drop-drop 1 read tokens)) ∙ sym (drop-take 1 (end - (read + 1)) (drop read tokens)) ∙ ap (λ k. drop 1 (take k (drop read tokens))) (sym n)

pub none-passed : (tokens : List Token) (read end : ℕ) → end ≤ read → take (end - read) (drop read tokens) ≡ drop 1 (take (end - read) (drop read tokens))
none-passed tokens read end over =
    let n : end - read ≡ 0 = omega arith in
    ap (λ k. take k (drop read tokens)) n ∙ ap (λ k. drop 1 (take k (drop read tokens))) (sym n)

-- a list whose first token this is
pub first-is : (left : List Token) (t : Token) → Some t ≡ slice_get left 0 → left ≡ t ∷ drop 1 left
first-is [] t is = absurd (cc is)
first-is (u ∷ left) t is = let same : t ≡ u = cc in ap (λ (x : Token). x ∷ left) (sym same)

-- a list of which something is left, but no token, is marked
pub marked-of : (left : List Token) (marked : Bool) → list_elements left marked ≢ [] → left ≡ [] → marked ≡ true
marked-of left true h e = refl
marked-of [] false h e = absurd (h refl)
marked-of (t ∷ left) false h e = cc

pub spent-of : (left : List Token) (marked : Bool) → marked ≡ false → left ≡ [] → list_elements left marked ≡ []
spent-of [] false m e = refl
spent-of [] true m e = cc
spent-of (t ∷ left) marked m e = cc

-- a list of which nothing is left has no token left, and no marker
pub left-of : (left : List Token) (marked : Bool) → list_elements left marked ≡ [] → left ≡ []
left-of [] marked h = refl
left-of (t ∷ left) true h = cc
left-of (t ∷ left) false h = cc

pub unmarked-of : (left : List Token) (marked : Bool) → list_elements left marked ≡ [] → marked ≡ false
unmarked-of left false h = refl
unmarked-of [] true h = cc
unmarked-of (t ∷ left) true h = cc

-- whether a list is spent, by how much of it is read
pub spent-tells : (tail : ListTail) (tokens : List Token) (read end : ℕ) (marked : Bool) → record { left = take (end - read) (drop read tokens); marked = marked } ≡ tail → end ≤ length tokens → marked ≡ false → (IsTrue (leb end read) → list_elements tail.left tail.marked ≡ []) × (list_elements tail.left tail.marked ≡ [] → IsTrue (leb end read))
spent-tells tail tokens read end marked view within unmarked =
    let left : take (end - read) (drop read tokens) ≡ tail.left = ap (λ (t : ListTail). t.left) view in
    let mark : marked ≡ tail.marked = ap (λ (t : ListTail). t.marked) view in
    let long : length (take (end - read) (drop read tokens)) ≡ end - read = length-take-le (end - read) (drop read tokens) (omega (arith, length-drop read tokens)) in (
      (λ t. let l : end ≤ read = leb-true end read t in let none : end - read ≡ 0 = omega arith in spent-of tail.left tail.marked (sym mark ∙ unmarked) (sym left ∙ ap (λ n. take n (drop read tokens)) none)),
      (λ h. let e : end - read ≡ 0 = sym long ∙ ap length (left ∙ left-of tail.left tail.marked h) in le-leb end read (omega arith)),
    )

list-no-line : (left : List Token) (marked : Bool) (i : ℕ) (unread : List ℕ) (state : ReadState) → Some (Unread unread state) ≡ slice_get (list_elements left marked) i → ⊥
list-no-line [] true zero unread state h = cc
list-no-line [] true (suc i) unread state h = cc
list-no-line [] false i unread state h = cc
list-no-line (t ∷ left) marked zero unread state h = cc
list-no-line (t ∷ left) marked (suc i) unread state h = list-no-line left marked i unread state h

list-no-held : (left : List Token) (marked : Bool) (i : ℕ) (token : Token) → Some (Held token) ≡ slice_get (list_elements left marked) i → ⊥
list-no-held [] true zero token h = cc
list-no-held [] true (suc i) token h = cc
list-no-held [] false i token h = cc
list-no-held (t ∷ left) marked zero token h = cc
list-no-held (t ∷ left) marked (suc i) token h = list-no-held left marked i token h

list-no-part : (left : List Token) (marked : Bool) (i : ℕ) (part : ColumnPart) → Some (PartEnd part) ≡ slice_get (list_elements left marked) i → ⊥
list-no-part [] true zero part h = cc
list-no-part [] true (suc i) part h = cc
list-no-part [] false i part h = cc
list-no-part (t ∷ left) marked zero part h = cc
list-no-part (t ∷ left) marked (suc i) part h = list-no-part left marked i part h

-- no list begins with the end of a part
list-no-entry : (left : List Token) (marked : Bool) → begins_entry (list_elements left marked) ≡ false
list-no-entry [] true = refl
list-no-entry [] false = refl
list-no-entry (t ∷ left) marked = refl

only : (e : Element) (i : ℕ) → i < length (e ∷ []) → slice_get (e ∷ []) i ≡ Some e
only e zero l = refl
only e (suc i) l = absurd (omega arith)

-- no element of a list is a line, a token that is held, or the end of a part
pub no-line : (s : Source) (l : ListTail) (i : ℕ) (line : LineTail) → s ≡ Source_list l → Some (Unread line.unread line.state) ≡ slice_get (elements_of s) i → ⊥
no-line s l i line e h = list-no-line l.left l.marked i line.unread line.state (h ∙ ap (λ t. slice_get (elements_of t) i) e)

pub no-held : (s : Source) (l : ListTail) (i : ℕ) (token : Token) → s ≡ Source_list l → Some (Held token) ≡ slice_get (elements_of s) i → ⊥
no-held s l i token e h = list-no-held l.left l.marked i token (h ∙ ap (λ t. slice_get (elements_of t) i) e)

pub no-part : (s : Source) (l : ListTail) (i : ℕ) (part : ColumnPart) → s ≡ Source_list l → Some (PartEnd part) ≡ slice_get (elements_of s) i → ⊥
no-part s l i part e h = list-no-part l.left l.marked i part (h ∙ ap (λ t. slice_get (elements_of t) i) e)

pub no-entry : (s : Source) (l : ListTail) → s ≡ Source_list l → begins_entry (elements_of s) ≡ false
no-entry s l e = ap (λ t. begins_entry (elements_of t)) e ∙ list-no-entry l.left l.marked

-- no line is an element of a list, and no token that is held, and no end of a part
pub line-not-in : (l : ListTail) (i : ℕ) (s : Source) (line : LineTail) (j : ℕ) → s ≡ Source_line line → j < length (elements_of s) → slice_get (list_elements l.left l.marked) i ≡ slice_get (elements_of s) j → ⊥
line-not-in l i s line j e =
    let P : Source → Type 0 = λ t. j < length (elements_of t) → slice_get (list_elements l.left l.marked) i ≡ slice_get (elements_of t) j → ⊥ in
    subst P (sym e) (λ m h. list-no-line l.left l.marked i line.unread line.state (sym (h ∙ only (Unread line.unread line.state) j m)))

by-held : (l : ListTail) (i : ℕ) (held : Option Token) (j : ℕ) → j < length (elements_of (Source_held held)) → slice_get (list_elements l.left l.marked) i ≡ slice_get (elements_of (Source_held held)) j → ⊥
by-held l i None j m h = absurd (omega arith)
by-held l i (Some token) j m h = list-no-held l.left l.marked i token (sym (h ∙ only (Held token) j m))

pub held-not-in : (l : ListTail) (i : ℕ) (s : Source) (held : Option Token) (j : ℕ) → s ≡ Source_held held → j < length (elements_of s) → slice_get (list_elements l.left l.marked) i ≡ slice_get (elements_of s) j → ⊥
held-not-in l i s held j e =
    let P : Source → Type 0 = λ t. j < length (elements_of t) → slice_get (list_elements l.left l.marked) i ≡ slice_get (elements_of t) j → ⊥ in
    subst P (sym e) (by-held l i held j)

by-part : (l : ListTail) (i : ℕ) (part : Option ColumnPart) (j : ℕ) → j < length (elements_of (Source_part part)) → slice_get (list_elements l.left l.marked) i ≡ slice_get (elements_of (Source_part part)) j → ⊥
by-part l i None j m h = absurd (omega arith)
by-part l i (Some part) j m h = list-no-part l.left l.marked i part (sym (h ∙ only (PartEnd part) j m))

pub part-not-in : (l : ListTail) (i : ℕ) (s : Source) (part : Option ColumnPart) (j : ℕ) → s ≡ Source_part part → j < length (elements_of s) → slice_get (list_elements l.left l.marked) i ≡ slice_get (elements_of s) j → ⊥
part-not-in l i s part j e =
    let P : Source → Type 0 = λ t. j < length (elements_of t) → slice_get (list_elements l.left l.marked) i ≡ slice_get (elements_of t) j → ⊥ in
    subst P (sym e) (by-part l i part j)

-- a text that begins with this character
pub begins : (text rest : List ℕ) (code : ℕ) (b : Bool) → 1 ≤ length text → get_or text 0 0 ≡ code → (IsTrue b ↔ (take (length text - 1) (drop 1 text) ≡ rest)) → IsTrue b ↔ (code ∷ rest ≡ text)
begins [] rest code b some first h = absurd (omega arith)
begins (c ∷ text) rest code b some first h =
    let e : take (length (c ∷ text) - 1) (drop 1 (c ∷ text)) ≡ text = take_rest (c ∷ text) 1 in
    ((λ t. let r : take (length (c ∷ text) - 1) (drop 1 (c ∷ text)) ≡ rest = h.0 t in cc), (λ u. h.1 (let v : text ≡ rest = cc in e ∙ v)))
