-- What an edit did to a file can be taken back.
use Rattle.std.proofs.Common.{◌≡◌, ℕ, ◌+◌, ◌-◌, ◌≤◌, Bool, true, false, cond, List, [], ◌++◌, length, take, drop, Option, Some, None, unwrap_or, refl, sym, ap, ◌∙◌, subst, arith, append_assoc}
use Rattle.std.proofs.lemmas.List.{length-append, length-drop, length-take-le, take-append-drop, take_at, drop_at, drop-drop}
use Rattle.std.specs.Prelude.{IsSome, is_some}
use Rattle.std.specs.Ordering.{nat_cmp, eq_by_cmp}
use Rattle.std.specs.Cmp.{eq_by_cmp_equiv}
use Rattle.std.specs.Cmp.Lexicographic.{slice_cmp, nat_list_cmp_total, bytes_decides}
use Rattle.std.specs.FinMap.{insert, remove, get-insert, get-remove, same_map, slice_cmp-IsAntisymmetric, nat_cmp-IsAntisymmetric}
use Rattle.std.proofs.lemmas.Map.Text.{is_eq-slice_cmp}
use Rattle.tx_bytes.specs.Files.{Files, content}
use Rattle.tx_files.specs.declared.edit.Undo.TheVariants.{Part}
use Rattle.tx_files.specs.Edits.{bytes_of, length_of, spliced, put_back, CanRestore}

-- whether two names are equal, as the map of files finds it
abbrev same_name : List ℕ → List ℕ → Bool
same_name q name = eq_by_cmp (slice_cmp nat_cmp) q name

named_same : (q name : List ℕ) → same_name q name ≡ true → q ≡ name
named_same q name e = (bytes_decides q name).0 (sym (is_eq-slice_cmp q name) ∙ e)

-- the file of the name that was put in is found
pub content-insert : (files : Files) (name bytes : List ℕ) → content (insert files name bytes) name ≡ Some bytes
content-insert files name bytes =
    get-insert nat_list_cmp_total files name bytes name ∙ ap (λ b. cond b (Some bytes) (content files name)) ((eq_by_cmp_equiv nat_list_cmp_total).refl name)

pub is_some-insert : (files after : Files) (name bytes : List ℕ) → after ≡ insert files name bytes → IsSome (content after name)
is_some-insert files after name bytes e = subst IsSome (sym (ap (λ f. content f name) e ∙ content-insert files name bytes)) refl

-- a change of one answer, changed back
back : (c : Bool) (before during all : Option (List ℕ)) → (c ≡ true → all ≡ before) → cond c before (cond c during all) ≡ all
back true before during all here = sym (here refl)
back false before during all here = refl

-- no file is there and not there
pub not_there : {content : Option (List ℕ)} {Any : Type 0} → content ≡ None → IsSome content → Any
not_there none some = absurd (let e : false ≡ true = sym (ap is_some none) ∙ some in cc)

-- a file that was made, taken away again
pub removed-insert : (files after : Files) (name bytes : List ℕ) → after ≡ insert files name bytes → None ≡ content files name → remove after name ≡ files
removed-insert files after name bytes e held = ap (λ f. remove f name) e ∙ same_map nat_list_cmp_total (slice_cmp-IsAntisymmetric nat_cmp-IsAntisymmetric) _ _ (λ q.
    get-remove nat_list_cmp_total (insert files name bytes) name q
    ∙ ap (cond (same_name q name) None) (get-insert nat_list_cmp_total files name bytes q)
    ∙ back (same_name q name) None (Some bytes) (content files q) (λ same. ap (content files) (named_same q name same) ∙ sym held))

-- what a file held before it was changed, put back, gives the files before
pub insert-insert : (files after : Files) (name bytes : List ℕ) {old : List ℕ} → after ≡ insert files name bytes → Some old ≡ content files name → insert after name old ≡ files
insert-insert files after name bytes {old = old} e held = ap (λ f. insert f name old) e ∙ same_map nat_list_cmp_total (slice_cmp-IsAntisymmetric nat_cmp-IsAntisymmetric) _ _ (λ q.
    get-insert nat_list_cmp_total (insert files name bytes) name old q
    ∙ ap (cond (same_name q name) (Some old)) (get-insert nat_list_cmp_total files name bytes q)
    ∙ back (same_name q name) (Some old) (Some bytes) (content files q) (λ same. ap (content files) (named_same q name same) ∙ sym held))

-- a file that is there holds its bytes
some_held : (files : Files) (name : List ℕ) (held : Option (List ℕ)) → held ≡ content files name → IsSome held → Some (bytes_of files name) ≡ content files name
some_held files name None is there = not_there refl there
some_held files name (Some bytes) is there = ap (λ o. Some (unwrap_or o [])) (sym is) ∙ is

-- as many bytes as were taken out, exchanged for those that were put in
module _ (held put : List ℕ) (place : ℕ) (within : place + length put ≤ length held) where
  abbrev before : List ℕ
  before = take (length put) (drop place held)

  abbrev front : List ℕ
  front = take place held

  abbrev behind : List ℕ
  behind = drop (place + length put) held

  front_length : length front ≡ place
  front_length = length-take-le place held (omega arith)

  before_length : length before ≡ length put
  before_length = let left : length (drop place held) ≡ length held - place = length-drop place held in length-take-le (length put) (drop place held) (omega arith)

  length-spliced : length (spliced held place (length put) put) ≡ length held
  length-spliced =
      let all : length (front ++ put ++ behind) ≡ length front + length put + length behind = length-append (front ++ put) behind ∙ ap (λ n. n + length behind) (length-append front put) in
      let rest : length behind ≡ length held - (place + length put) = length-drop (place + length put) held in
      let start : length front ≡ place = front_length in
      omega arith

  whole : front ++ before ++ behind ≡ held
  whole =
      append_assoc front before behind
      ∙ ap (λ bytes. front ++ (before ++ bytes)) (sym (drop-drop (length put) place held))
      ∙ ap (λ bytes. front ++ bytes) (take-append-drop (length put) (drop place held))
      ∙ take-append-drop place held

  spliced-spliced : spliced (spliced held place (length put) put) place (length before) before ≡ held
  spliced-spliced =
      ap (λ n. take place (front ++ put ++ behind) ++ before ++ drop (place + n) (front ++ put ++ behind)) before_length
      ∙ (λ i. (ap (take place) (append_assoc front put behind) ∙ take_at front (put ++ behind) place front_length) i ++ before
      ++ drop_at (front ++ put) behind (place + length put) (length-append front put ∙ ap (λ n. n + length put) front_length) i)
      ∙ whole

-- a file in which such bytes were exchanged
module _ (files after : Files) (name put : List ℕ) (place : ℕ) (there : IsSome (content files name)) (within : place + length put ≤ length_of files name) (is : after ≡ put_back files name place put) where
  abbrev held : List ℕ
  held = bytes_of files name

  now_is : bytes_of after name ≡ spliced held place (length put) put
  now_is = ap (λ f. bytes_of f name) is ∙ ap (λ o. unwrap_or o []) (content-insert files name (spliced held place (length put) put))

  pub can-put_back : {gone : List ℕ} → gone ≡ take (length put) (drop place held) → CanRestore after name (Part place gone)
  can-put_back {gone = gone} gone_is =
      let now_length : length_of after name ≡ length held = ap length now_is ∙ length-spliced held put place within in
      let gone_length : length gone ≡ length put = ap length gone_is ∙ before_length held put place within in
      (is_some-insert files after name (spliced held place (length put) put) is, omega arith)

  pub put_back-put_back : {gone : List ℕ} → gone ≡ take (length put) (drop place held) → put_back after name place gone ≡ files
  put_back-put_back gone_is =
      (λ i. put_back after name place (gone_is i))
      ∙ ap (λ bytes. insert after name (spliced bytes place (length (before held put place within)) (before held put place within))) now_is
      ∙ ap (insert after name) (spliced-spliced held put place within)
      ∙ insert-insert files after name (spliced held place (length put) put) is (some_held files name (content files name) refl there)
