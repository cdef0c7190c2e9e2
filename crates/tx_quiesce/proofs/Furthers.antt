-- The rest of an old run that is moved begins, and ends, where its rows in code say.
use Rattle.std.proofs.Common.{◌≡◌, ℕ, zero, suc, ◌+◌, ◌-◌, ◌<◌, ◌≤◌, true, false, cond, List, [], ◌∷◌, length, map, take, drop, get_or, refl, sym, ap, ◌∙◌, subst, arith, nat_le, length-drop}
use Rattle.std.proofs.lemmas.Bool.{le-leb, lt-leb}
use Rattle.std.proofs.lemmas.List.{length-map, take-map, take_all}
use Rattle.tx_bytes.specs.Files.{Files}
use Rattle.tx_files.specs.declared.edit.Change.{Change}
use Rattle.tx_machine.specs.declared.types.End.TheVariants.{PageLimit}
use Rattle.tx_machine.specs.Machine.{Formatter}
use Rattle.tx_checkpoint.specs.declared.row.Row.{Row}
use Rattle.tx_checkpoint.specs.declared.row.Last.{Last}
use Rattle.tx_checkpoint.specs.declared.row.Rows.{Rows}
use Rattle.tx_checkpoint.specs.Meant.{AreRows, rows_meant}
use Rattle.tx_checkpoint.specs.Resume.{Begun, after_rows}
use Rattle.tx_checkpoint.specs.Rows.{History, PageRow, rows_in, only, at_limit, rows_from, all_turns}
use Rattle.tx_checkpoint.proofs.LastRow.{last-row}
use Rattle.tx_quiesce.specs.Further.{CanReuse, further_turns}
use Rattle.tx_quiesce.specs.Limits.{is_page_limit}
use Rattle.tx_quiesce.specs.Reuse.{moved, moved_begun, rest_of, further}
use Rattle.tx_quiesce.specs.Shift.{end_now}
use Rattle.tx_quiesce.specs.Moves.{CanCarryOpens, carried_opens, carried_row, carried_page, last_now}
use Rattle.tx_quiesce.proofs.Suffix.{limit-now}
use Rattle.tx_quiesce.proofs.Found.{after-append, take-split, drop-map}

-- moved rows lead where the rows lead, moved
moved_after : {S : Type 0} (changes : List Change) (begun : Begun S) (rows : List (Row S)) → after_rows (moved_begun changes begun) (map (carried_row changes) rows) ≡ moved_begun changes (after_rows begun rows)
moved_after changes begun [] = refl
moved_after changes begun (row ∷ rows) = moved_after changes (record { state = row.state; opens = row.opens }) rows

moved_rows : {S : Type 0} (changes : List Change) (pages : List (PageRow S)) → rows_in (map (carried_page changes) pages) ≡ map (carried_row changes) (rows_in pages)
moved_rows changes [] = refl
moved_rows changes (page ∷ pages) = ap (λ rows. carried_row changes page.row ∷ rows) (moved_rows changes pages)

-- what can be moved behind a row
drop_get : {X : Type 0} (n k : ℕ) (xs : List X) (d : X) → get_or (drop n xs) k d ≡ get_or xs (n + k) d
drop_get zero k xs d = let same : k ≡ 0 + k = omega arith in ap (λ i. get_or xs i d) same
drop_get (suc n) k [] d = refl
drop_get (suc n) k (x ∷ xs) d = drop_get n k xs d ∙ (let next : suc (n + k) ≡ suc n + k = omega arith in ap (λ i. get_or (x ∷ xs) i d) next)

pub can-opens : {S : Type 0} {changes : List Change} {number : ℕ} {rows : List (Row S)} {last : Last} → CanReuse changes number rows last → (k : ℕ) → number + k ≤ length rows → {row : Row S} → row ≡ get_or rows (number + k - 1) row → CanCarryOpens changes row.opens
can-opens {S = S} {changes = changes} {number = number} {rows = rows} can k within {row = row} is =
    let some : 1 ≤ number = can.some in
    let left : length (drop (number - 1) rows) ≡ length rows - (number - 1) = length-drop (number - 1) rows in
    let at : number - 1 + k ≡ number + k - 1 = omega arith in
    subst (λ (it : Row S). CanCarryOpens changes it.opens) (drop_get (number - 1) k rows row ∙ ap (λ i. get_or rows i row) at ∙ sym is) (can.opens k row (omega arith))

-- the files that are open behind some rows of the rest, by the rows as they were lent
pub lent-opens : {S : Type 0} {changes : List Change} {number : ℕ} {olds rows : List (Row S)} {last : Last} → rows ≡ olds → CanReuse changes number olds last → (k : ℕ) → k ≤ length rows - number → {row : Row S} → row ≡ get_or rows (number + k - 1) row
    → CanCarryOpens changes row.opens
lent-opens {S = S} {number = number} {olds = olds} rows_are can k within {row = row} is =
    let few : k ≤ length olds - number = subst (λ (rows : List (Row S)). k ≤ length rows - number) rows_are within in
    let fit : number ≤ length olds = can.within in
    can-opens can k (omega arith) (subst (λ (rows : List (Row S)). row ≡ get_or rows (number + k - 1) row) rows_are is)

-- and behind the last row
pub last-opens : {S : Type 0} {changes : List Change} {number : ℕ} {olds rows : List (Row S)} {last : Last} → rows ≡ olds → CanReuse changes number olds last → {row : Row S} → row ≡ get_or rows (length rows - 1) row → CanCarryOpens changes row.opens
last-opens {S = S} {number = number} {olds = olds} {rows = rows} rows_are can {row = row} is =
    let fit : number ≤ length olds = can.within in
    let same : length rows ≡ length olds = ap length rows_are in
    let sum : length rows - 1 ≡ number + (length rows - number) - 1 = omega arith in
    lent-opens rows_are can (length rows - number) (omega arith) (is ∙ ap (λ i. get_or rows i row) sum)

module _ {S M : Type 0} (meaning : S → M) (changes : List Change) (files : Files) {old : Rows S} {h : History M} (are : AreRows meaning old h) (start : Begun M) (number : ℕ) where
  abbrev pub begun : Begun M
  begun = moved_begun changes (after_rows start (take number (rows_in h.pages)))

  abbrev pub rest : History M
  rest = moved files changes (rest_of h number)

  pub rest-size : length rest.pages ≡ length old.rows.items - number
  rest-size =
      length-map (drop number h.pages) (carried_page changes) ∙ length-drop number h.pages
      ∙ ap (λ n. n - number) (sym (length-map h.pages (λ page. page.row)) ∙ sym (ap length are.rows_are) ∙ length-map old.rows.items _)

  -- where the first pages of the rest lead
  pub rest-after : (k : ℕ) → 1 ≤ number → number + k ≤ length old.rows.items → {row : Row S} → row ≡ get_or old.rows.items (number + k - 1) row
      → after_rows begun (rows_in (take k rest.pages)) ≡ record { state = meaning row.state; opens = carried_opens changes row.opens }
  rest-after k some within {row = row} is =
      let at : suc (number + k - 1) ≡ number + k = omega arith in
      ap (after_rows begun) (ap rows_in (take-map (carried_page changes) k (drop number h.pages)) ∙ moved_rows changes (take k (drop number h.pages)))
      ∙ moved_after changes (after_rows start (take number (rows_in h.pages))) (rows_in (take k (drop number h.pages)))
      ∙ ap (moved_begun changes)
      (ap (after_rows (after_rows start (take number (rows_in h.pages)))) (sym (take-map (λ (page : PageRow M). page.row) k (drop number h.pages)) ∙ ap (take k) (sym (drop-map (λ (page : PageRow M). page.row) number h.pages)))
      ∙ sym (after-append start (take number (rows_in h.pages)) (take k (drop number (rows_in h.pages)))) ∙ ap (after_rows start) (sym (take-split number k (rows_in h.pages)))
      ∙ ap (λ rows. after_rows start (take (number + k) rows)) (sym are.rows_are) ∙ ap (λ n. after_rows start (take n (rows_meant meaning old.rows.items))) (sym at)
      ∙ last-row meaning start old.rows.items (number + k - 1) row (omega arith)
      ∙ ap (λ (it : Row S). record { state = meaning it.state; opens = it.opens }) (sym is))

  module _ (m : Formatter M) (budget most : ℕ) where
    pub further-limit : most ≤ length old.rows.items - number → further m files budget most begun rest ≡ only (at_limit (after_rows begun (rows_in (take most rest.pages))).opens)
    further-limit within =
        ap (λ b. cond b (only (at_limit (after_rows begun (rows_in (take most rest.pages))).opens))
        (cond (is_page_limit rest.last.end) (rows_from m files budget (most - length rest.pages) (after_rows begun (rows_in rest.pages)).state (after_rows begun (rows_in rest.pages)).opens) (only rest.last)))
        (le-leb most (length rest.pages) (let size = rest-size in omega arith))

    -- at the page limit
    pub further-cut : 1 ≤ number → number ≤ length old.rows.items → most ≤ length old.rows.items - number → {row : Row S} → row ≡ get_or old.rows.items (number + most - 1) row
        → further m files budget most begun rest ≡ only (at_limit (carried_opens changes row.opens))
    further-cut some inside within is = further-limit within ∙ ap (λ (b : Begun M). only (at_limit b.opens)) (rest-after most some (omega arith) is)

    -- where the old run was cut off too early
    pub further-goes : 1 ≤ number → number ≤ length old.rows.items → length old.rows.items - number < most → old.last.end ≡ PageLimit → {row : Row S} → row ≡ get_or old.rows.items (length old.rows.items - 1) row
        → further m files budget most begun rest ≡ rows_from m files budget (most - (length old.rows.items - number)) (meaning row.state) (carried_opens changes row.opens)
    further-goes some inside above limit {row = row} is =
        let size : length rest.pages ≡ length old.rows.items - number = rest-size in
        let over : nat_le most (length rest.pages) ≡ false = lt-leb most (length rest.pages) (omega arith) in
        let cut_off : is_page_limit rest.last.end ≡ true = ap (λ end. is_page_limit (end_now files (carried_opens changes h.last.opens) end)) (sym (ap (λ last. last.end) are.last_is) ∙ limit) in
        let last : ℕ = length old.rows.items - number in
        let sum : length old.rows.items - 1 ≡ number + last - 1 = omega arith in
        let whole : take last rest.pages ≡ rest.pages = take_all last rest.pages (omega arith) in
        let at : after_rows begun (rows_in rest.pages) ≡ record { state = meaning row.state; opens = carried_opens changes row.opens } =
        ap (λ pages. after_rows begun (rows_in pages)) (sym whole) ∙ rest-after last some (omega arith) (is ∙ ap (λ i. get_or old.rows.items i row) sum) in
        (λ i. cond (over i) (only (at_limit (after_rows begun (rows_in (take most rest.pages))).opens))
        (cond (cut_off i) (rows_from m files budget (most - length rest.pages) (after_rows begun (rows_in rest.pages)).state (after_rows begun (rows_in rest.pages)).opens) (only rest.last)))
        ∙ (λ i. rows_from m files budget (most - size i) (at i).state (at i).opens)

    -- and where it ended by itself
    pub further-stands : number ≤ length old.rows.items → length old.rows.items - number < most → is_page_limit old.last.end ≡ false → further m files budget most begun rest ≡ only (last_now files changes old.last)
    further-stands inside above ends =
        let size : length rest.pages ≡ length old.rows.items - number = rest-size in
        let over : nat_le most (length rest.pages) ≡ false = lt-leb most (length rest.pages) (omega arith) in
        let by_itself : is_page_limit rest.last.end ≡ false = limit-now files (carried_opens changes h.last.opens) h.last.end ∙ ap (λ last. is_page_limit last.end) (sym are.last_is) ∙ ends in
        (λ i. cond (over i) (only (at_limit (after_rows begun (rows_in (take most rest.pages))).opens))
        (cond (by_itself i) (rows_from m files budget (most - length rest.pages) (after_rows begun (rows_in rest.pages)).state (after_rows begun (rows_in rest.pages)).opens) (only rest.last)))
        ∙ ap (λ last. only (last_now files changes last)) (sym are.last_is)

    -- the same, by the rows as they were lent
    module _ {rows : List (Row S)} (rows_are : rows ≡ old.rows.items) (can : CanReuse changes number old.rows.items old.last) where
      pub lent-cut : most ≤ length rows - number → {row : Row S} → row ≡ get_or rows (number + most - 1) row → further m files budget most begun rest ≡ only (at_limit (carried_opens changes row.opens))
      lent-cut within {row = row} is =
          further-cut can.some can.within (subst (λ (rows : List (Row S)). most ≤ length rows - number) rows_are within)
          (subst (λ (rows : List (Row S)). row ≡ get_or rows (number + most - 1) row) rows_are is)

      module _ (above : length rows - number < most) (limit : old.last.end ≡ PageLimit) {row : Row S} (is : row ≡ get_or rows (length rows - 1) row) where
        pub lent-goes : further m files budget most begun rest ≡ rows_from m files budget (most - (length rows - number)) (meaning row.state) (carried_opens changes row.opens)
        lent-goes =
            further-goes can.some can.within (subst (λ (rows : List (Row S)). length rows - number < most) rows_are above) limit (subst (λ (rows : List (Row S)). row ≡ get_or rows (length rows - 1) row) rows_are is)
            ∙ ap (λ (rows : List (Row S)). rows_from m files budget (most - (length rows - number)) (meaning row.state) (carried_opens changes row.opens)) (sym rows_are)

        pub lent-turns : all_turns (rows_from m files budget (most - (length rows - number)) (meaning row.state) (carried_opens changes row.opens)) ≡ further_turns old.last (further m files budget most begun rest)
        lent-turns = ap all_turns (sym lent-goes) ∙ ap (λ end. cond (is_page_limit end) (all_turns (further m files budget most begun rest)) 0) (sym limit)
