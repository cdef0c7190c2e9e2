-- Rows whose reads changes leave stand on the changed files, a run goes on from any of its rows, and where all reads are left
-- all of it stands, its end included.
use Rattle.std.proofs.Common.{◌≡◌, ℕ, zero, suc, ◌+◌, ◌-◌, ◌≤◌, Bool, true, false, cond, ◌&&◌, List, [], ◌∷◌, length, take, Option, Some, None, refl, sym, ap, subst, ◌∙◌, arith, true≢false, unwrap_or, nat_eq}
use Rattle.std.specs.List.{prefix_len, list_all}
use Rattle.std.proofs.lemmas.Bool.{eqb-true, eq-eqb}
use Rattle.std.proofs.lemmas.List.{length-take, length-take-le, length-map, take-map, take_all}
use Rattle.std.proofs.lemmas.List.Sums.{prefix_len-le-length}
use Rattle.tx_bytes.specs.Files.{Files}
use Rattle.tx_files.specs.declared.edit.Change.{Change}
use Rattle.tx_files.specs.Changes.{all_fit, all_changed}
use Rattle.tx_files.specs.Lines.{line_count}
use Rattle.tx_machine.specs.declared.types.Close.{Close}
use Rattle.tx_machine.specs.declared.types.Close.TheVariants.{Page, Halt, Spent}
use Rattle.tx_machine.specs.declared.types.End.TheVariants.{Error, Budget}
use Rattle.tx_machine.specs.declared.types.Date.{Date}
use Rattle.tx_machine.specs.declared.types.Limits.{Limits}
use Rattle.tx_machine.specs.declared.types.OpenFile.{OpenFile}
use Rattle.tx_event.specs.declared.types.Stop.{Stop}
use Rattle.tx_event.specs.declared.types.Stop.TheVariants.{End as StopEnd, Error as StopError}
use Rattle.tx_machine.specs.Machine.{Formatter}
use Rattle.tx_machine.specs.Opens.{innermost}
use Rattle.tx_machine.specs.Run.{run_from, closed_run, end_of, error_at, ended, page_start}
use Rattle.tx_machine.specs.Turn.{Place, Progress, stretch}
use Rattle.tx_checkpoint.specs.declared.row.Row.{Row}
use Rattle.tx_checkpoint.specs.declared.row.Last.{Last}
use Rattle.tx_files.specs.Reads.{untouched}
use Rattle.tx_checkpoint.specs.Rows.{History, PageRow, page_row, rows_in, last_of, behind, only, closed_rows, rows_from, fresh_rows, run_of, turns_of}
use Rattle.tx_checkpoint.specs.Resume.{stays, resume, all_stay, stands, Begun, after_rows, run_behind}
use Rattle.tx_checkpoint.specs.Laws.{AreUntouched, IsLastUntouched}
use Rattle.tx_checkpoint.proofs.Untouched.{AreLeft, untouched-left}
use Rattle.tx_checkpoint.proofs.Within.{AreWithin, none-within}
use Rattle.tx_checkpoint.proofs.Spared.{Spared, spared-all}
use Rattle.tx_checkpoint.proofs.Stretches.{within-stretch, same-stretch}

-- where the next page begins behind some pages
abbrev pub after_pages : {S : Type 0} → Begun S → List (PageRow S) → Begun S
after_pages begun pages = after_rows begun (rows_in pages)

both : (a b : Bool) → (a && b) ≡ true → (a ≡ true) × (b ≡ true)
both true b h = (refl, h)
both false b h = absurd (true≢false (sym h))

one_and : (a b : Bool) → a ≡ true → b ≡ true → (a && b) ≡ true
one_and a b first second = (λ i. first i && second i)

-- the longest front of which all pass
module _ {X : Type 0} (p : X → Bool) where
  front_passes : (xs : List X) → list_all p (take (prefix_len p xs) xs) ≡ true
  front_passes [] = refl
  front_passes (x ∷ xs) = by (p x) refl (front_passes xs)
    where
      by : (b : Bool) → p x ≡ b → list_all p (take (prefix_len p xs) xs) ≡ true → list_all p (take (cond b (1 + prefix_len p xs) 0) (x ∷ xs)) ≡ true
      by true is rest =
          let more : 1 + prefix_len p xs ≡ suc (prefix_len p xs) = omega arith in
          ap (λ n. list_all p (take n (x ∷ xs))) more ∙ one_and (p x) _ is rest
      by false is rest = refl

  longest_front : (xs : List X) (k : ℕ) → k ≤ length xs → list_all p (take k xs) ≡ true → k ≤ prefix_len p xs
  longest_front xs zero within passes = omega arith
  longest_front [] (suc k) within passes = absurd (omega arith)
  longest_front (x ∷ xs) (suc k) within passes =
      let parts : (p x ≡ true) × (list_all p (take k xs) ≡ true) = both (p x) _ passes in
      let rest : k ≤ prefix_len p xs = longest_front xs k (omega arith) parts.1 in
      let more : prefix_len p (x ∷ xs) ≡ 1 + prefix_len p xs = ap (λ b. cond b (1 + prefix_len p xs) 0) parts.0 in
      omega arith

  -- all pass where that front is all
  pub all-front : (xs : List X) → nat_eq (prefix_len p xs) (length xs) ≡ list_all p xs
  all-front xs = by (nat_eq (prefix_len p xs) (length xs)) (list_all p xs) refl refl
    where
      by : (a b : Bool) → nat_eq (prefix_len p xs) (length xs) ≡ a → list_all p xs ≡ b → a ≡ b
      by true true is passes = refl
      by false false is passes = refl
      by true false is passes = sym (ap (list_all p) (sym (take_all (length xs) xs (omega arith)) ∙ ap (λ n. take n xs) (sym (eqb-true (prefix_len p xs) (length xs) is))) ∙ front_passes xs) ∙ passes
      by false true is passes =
          let most : length xs ≤ prefix_len p xs = longest_front xs (length xs) (omega arith) (ap (list_all p) (take_all (length xs) xs (omega arith)) ∙ passes) in
          let least : prefix_len p xs ≤ length xs = prefix_len-le-length p xs in
          sym is ∙ eq-eqb (prefix_len p xs) (length xs) (omega arith)

-- so the row at which formatting resumes tells whether everything stands
pub stands-by : {S : Type 0} (rows : List (Row S)) (last : Last) (changes : List Change) (kept len : ℕ) → kept ≡ resume rows changes → len ≡ length rows → (nat_eq kept len && untouched last.seen changes) ≡ all_stay rows last changes
stands-by rows last changes kept len resumes all = (λ i. nat_eq (resumes i) (all i) && untouched last.seen changes) ∙ ap (λ b. b && untouched last.seen changes) (all-front (stays changes) rows)

pub resumes-last : {S : Type 0} (rows : List (Row S)) (changes : List Change) → IsLastUntouched rows (resume rows changes) changes
resumes-last rows changes = record {
  untouched = record { within = prefix_len-le-length (stays changes) rows; stay = front_passes (stays changes) rows };
  last = λ k are. longest_front (stays changes) rows k are.within are.stay;
}

module _ {S : Type 0} (m : Formatter S) (files : Files) (budget : ℕ) where
  -- the run has its rows' pages, pieces, turns and end
  closed_tells : (t : Progress S) (close : Close) (later : History S) → closed_run files t close (run_of later) ≡ run_of (closed_rows files t close later)
  closed_tells t (Page body) later =
      let sum : t.turns + (turns_of later.pages + later.last.turns) ≡ t.turns + turns_of later.pages + later.last.turns = omega arith in
      λ i. record { ran = (run_of (behind (page_row t body ∷ []) later)).ran; turns = sum i }
  closed_tells t (Halt stop) later = let sum : t.turns ≡ 0 + t.turns = omega arith in λ i. record { ran = (ended t.said t.turns (end_of files t.place.opens stop)).ran; turns = sum i }
  closed_tells t Spent later = let sum : t.turns ≡ 0 + t.turns = omega arith in λ i. record { ran = (ended t.said t.turns Budget).ran; turns = sum i }

  pub rows-tell : (pages : ℕ) (state : S) (opens : List OpenFile) → run_from m files budget pages state opens ≡ run_of (rows_from m files budget pages state opens)
  unfolding run_from rows_from
  rows-tell zero state opens = refl
  rows-tell (suc pages) state opens =
      let t : Progress S = stretch m files (page_start state opens budget) in
      ap (closed_run files t (unwrap_or t.close Spent)) (rows-tell pages t.place.state t.place.opens)
      ∙ closed_tells t (unwrap_or t.close Spent) (rows_from m files budget pages t.place.state t.place.opens)

  -- the rows that come behind a stretch, and with them all of them
  abbrev behind_stretch : ℕ → Progress S → History S
  behind_stretch pages t = rows_from m files budget pages t.place.state t.place.opens

  abbrev from_stretch : ℕ → Progress S → Close → History S
  from_stretch pages t close = closed_rows files t close (behind_stretch pages t)

  -- a run is its first rows and then the run from the place after them
  abbrev split_at : ℕ → ℕ → Begun S → List (PageRow S) → History S
  split_at pages k begun kept = behind kept (rows_from m files budget (pages - k) (after_pages begun kept).state (after_pages begun kept).opens)

  split_stretch : (pages k : ℕ) (state : S) (opens : List OpenFile) (t : Progress S) (close : Close) → suc k ≤ length (from_stretch pages t close).pages
      → (k ≤ length (behind_stretch pages t).pages → behind_stretch pages t ≡ split_at pages k (record { state = t.place.state; opens = t.place.opens }) (take k (behind_stretch pages t).pages))
      → from_stretch pages t close ≡ split_at (suc pages) (suc k) (record { state = state; opens = opens }) (take (suc k) (from_stretch pages t close).pages)
  split_stretch pages k state opens t (Page body) within there =
      let fewer : pages - k ≡ suc pages - suc k = omega arith in
      let begun : Begun S = after_pages (record { state = t.place.state; opens = t.place.opens }) (take k (behind_stretch pages t).pages) in
      ap (behind (page_row t body ∷ [])) (there (omega arith))
      ∙ ap (λ n. behind (page_row t body ∷ take k (behind_stretch pages t).pages) (rows_from m files budget n begun.state begun.opens)) fewer
  split_stretch pages k state opens t (Halt stop) within there = absurd (omega arith)
  split_stretch pages k state opens t Spent within there = absurd (omega arith)

  pub splits : (pages k : ℕ) (state : S) (opens : List OpenFile) → k ≤ length (rows_from m files budget pages state opens).pages
      → rows_from m files budget pages state opens ≡ split_at pages k (record { state = state; opens = opens }) (take k (rows_from m files budget pages state opens).pages)
  unfolding rows_from
  splits pages zero state opens within = let none : pages ≡ pages - 0 = omega arith in ap (λ n. rows_from m files budget n state opens) none
  splits zero (suc k) state opens within = absurd (omega arith)
  splits (suc pages) (suc k) state opens within =
      let t : Progress S = stretch m files (page_start state opens budget) in
      split_stretch pages k state opens t (unwrap_or t.close Spent) within (splits pages k t.place.state t.place.opens)

module _ {S : Type 0} (m : Formatter S) (budget : ℕ) {changes : List Change} {before after : Files} (spare : Spared before after changes) where
  -- the first rows
  row_left : (pages k : ℕ) (t : Progress S) (close : Close) → suc k ≤ length (rows_in (from_stretch m before budget pages t close).pages)
      → list_all (stays changes) (take (suc k) (rows_in (from_stretch m before budget pages t close).pages)) ≡ true → AreLeft changes t.log
  row_left pages k t (Page body) within stay = untouched-left t.log changes (both (stays changes (page_row t body).row) _ stay).0
  row_left pages k t (Halt stop) within stay = absurd (omega arith)
  row_left pages k t Spent within stay = absurd (omega arith)

  first_rows : (pages k : ℕ) (t : Progress S) (close : Close) → suc k ≤ length (rows_in (from_stretch m before budget pages t close).pages)
      → list_all (stays changes) (take (suc k) (rows_in (from_stretch m before budget pages t close).pages)) ≡ true
      → (k ≤ length (rows_in (behind_stretch m before budget pages t).pages) → list_all (stays changes) (take k (rows_in (behind_stretch m before budget pages t).pages)) ≡ true
      → take k (behind_stretch m after budget pages t).pages ≡ take k (behind_stretch m before budget pages t).pages)
      → take (suc k) (from_stretch m after budget pages t close).pages ≡ take (suc k) (from_stretch m before budget pages t close).pages
  first_rows pages k t (Page body) within stay there = ap (λ later. page_row t body ∷ later) (there (omega arith) (both (stays changes (page_row t body).row) _ stay).1)
  first_rows pages k t (Halt stop) within stay there = absurd (omega arith)
  first_rows pages k t Spent within stay there = absurd (omega arith)

  pub prefix-stands : (pages k : ℕ) (state : S) (opens : List OpenFile) → AreUntouched (rows_in (rows_from m before budget pages state opens).pages) k changes
      → take k (rows_from m after budget pages state opens).pages ≡ take k (rows_from m before budget pages state opens).pages
  unfolding rows_from
  prefix-stands pages zero state opens are = refl
  prefix-stands zero (suc k) state opens are = absurd (let none : suc k ≤ 0 = are.within in omega arith)
  prefix-stands (suc pages) (suc k) state opens are =
      let start : Place S = page_start state opens budget in
      let t : Progress S = stretch m before start in
      let close : Close = unwrap_or t.close Spent in
      let left : AreLeft changes t.log = row_left pages k t close are.within are.stay in
      ap (λ (u : Progress S). take (suc k) (from_stretch m after budget pages u (unwrap_or u.close Spent)).pages) (same-stretch m changes spare start left)
      ∙ first_rows pages k t close are.within are.stay (λ inside left_too. prefix-stands pages k t.place.state t.place.opens (record { within = inside; stay = left_too }))

  pub resumes : (pages k : ℕ) (state : S) (opens : List OpenFile) → AreUntouched (rows_in (rows_from m before budget pages state opens).pages) k changes
      → rows_from m after budget pages state opens ≡ split_at m after budget pages k (record { state = state; opens = opens }) (take k (rows_from m before budget pages state opens).pages)
  resumes pages k state opens are =
      let same : take k (rows_from m after budget pages state opens).pages ≡ take k (rows_from m before budget pages state opens).pages = prefix-stands pages k state opens are in
      let inside : k ≤ length (rows_from m before budget pages state opens).pages = subst (λ n. k ≤ n) (length-map (rows_from m before budget pages state opens).pages (λ page. page.row)) are.within in
      let within : k ≤ length (rows_from m after budget pages state opens).pages =
      (let taken : length (take k (rows_from m after budget pages state opens).pages) ≡ k = ap length same ∙ length-take-le k (rows_from m before budget pages state opens).pages inside in
      omega (arith, length-take k (rows_from m after budget pages state opens).pages)) in
      splits m after budget pages k state opens within ∙ ap (split_at m after budget pages k (record { state = state; opens = opens })) same

  -- with the rows taken before, in place of the rows of the pages that are taken
  pub resumes-behind : (pages k : ℕ) (state : S) (opens : List OpenFile) → AreUntouched (rows_in (rows_from m before budget pages state opens).pages) k changes
      → rows_from m after budget pages state opens ≡ behind (take k (rows_from m before budget pages state opens).pages)
      (rows_from m after budget (pages - k) (after_rows (record { state = state; opens = opens }) (take k (rows_in (rows_from m before budget pages state opens).pages))).state
      (after_rows (record { state = state; opens = opens }) (take k (rows_in (rows_from m before budget pages state opens).pages))).opens)
  resumes-behind pages k state opens are =
      let old : List (PageRow S) = (rows_from m before budget pages state opens).pages in
      resumes pages k state opens are
      ∙ ap (λ (rows : List (Row S)). behind (take k old) (rows_from m after budget (pages - k) (after_rows (record { state = state; opens = opens }) rows).state (after_rows (record { state = state; opens = opens }) rows).opens))
      (sym (take-map (λ (page : PageRow S). page.row) k old))

  -- an error's line
  error_same : (code : ℕ) (opens : List OpenFile) (file : Option OpenFile) → innermost opens ≡ file → AreWithin changes opens → error_at after code file ≡ error_at before code file
  error_same code opens None is within = refl
  error_same code opens (Some file) is within = ap (λ read. Error code (Some file.name) (line_count read)) (spare.reads opens file is within)

  end_same : (opens : List OpenFile) (stop : Stop) → AreWithin changes opens → end_of after opens stop ≡ end_of before opens stop
  end_same opens StopEnd within = refl
  end_same opens (StopError code) within = error_same code opens (innermost opens) refl within

  -- all rows and the stretch after them
  stretch_left : (pages : ℕ) (t : Progress S) (close : Close) → stands (from_stretch m before budget pages t close) changes ≡ true → AreLeft changes t.log
  stretch_left pages t (Page body) stand = untouched-left t.log changes (both (stays changes (page_row t body).row) _ (both (list_all (stays changes) (rows_in (from_stretch m before budget pages t (Page body)).pages)) _ stand).0).0
  stretch_left pages t (Halt stop) stand = untouched-left t.log changes stand
  stretch_left pages t Spent stand = untouched-left t.log changes stand

  stretch_stands : (pages : ℕ) (t : Progress S) (close : Close) → AreWithin changes t.place.opens → stands (from_stretch m before budget pages t close) changes ≡ true
      → (stands (behind_stretch m before budget pages t) changes ≡ true → behind_stretch m after budget pages t ≡ behind_stretch m before budget pages t)
      → from_stretch m after budget pages t close ≡ from_stretch m before budget pages t close
  stretch_stands pages t (Page body) within stand there =
      let parts = both (list_all (stays changes) (rows_in (from_stretch m before budget pages t (Page body)).pages)) _ stand in
      let rest = both (stays changes (page_row t body).row) _ parts.0 in
      ap (behind (page_row t body ∷ [])) (there (one_and _ _ rest.1 parts.1))
  stretch_stands pages t (Halt stop) within stand there = ap (λ end. only (last_of t end)) (end_same t.place.opens stop within)
  stretch_stands pages t Spent within stand there = refl

  pub all-stands : (pages : ℕ) (state : S) (opens : List OpenFile) → AreWithin changes opens → stands (rows_from m before budget pages state opens) changes ≡ true
      → rows_from m after budget pages state opens ≡ rows_from m before budget pages state opens
  unfolding rows_from
  all-stands zero state opens within stand = refl
  all-stands (suc pages) state opens within stand =
      let start : Place S = page_start state opens budget in
      let t : Progress S = stretch m before start in
      let close : Close = unwrap_or t.close Spent in
      let left : AreLeft changes t.log = stretch_left pages t close stand in
      let inside : AreWithin changes t.place.opens = within-stretch m changes before start within left in
      ap (λ (u : Progress S). from_stretch m after budget pages u (unwrap_or u.close Spent)) (same-stretch m changes spare start left)
      ∙ stretch_stands pages t close inside stand (λ later. all-stands pages t.place.state t.place.opens inside later)

-- the fresh run on the changed files, where everything stands and where formatting resumes
module _ {S : Type 0} (m : Formatter S) (files : Files) (changes : List Change) (main : List ℕ) (date : Date) (limits : Limits) (fits : all_fit files changes ≡ true) where
  pub fresh-stands : stands (fresh_rows m files main date limits) changes ≡ true → fresh_rows m (all_changed files changes) main date limits ≡ fresh_rows m files main date limits
  fresh-stands stand = all-stands m limits.budget (spared-all changes files fits) limits.pages (m.start date main) [] (none-within changes) stand

  pub fresh-resumes : (k : ℕ) → AreUntouched (rows_in (fresh_rows m files main date limits).pages) k changes
      → fresh_rows m (all_changed files changes) main date limits ≡ behind (take k (fresh_rows m files main date limits).pages) (run_behind m (all_changed files changes) (rows_in (fresh_rows m files main date limits).pages) k main date limits)
  fresh-resumes k are = resumes-behind m limits.budget (spared-all changes files fits) limits.pages k (m.start date main) [] are
