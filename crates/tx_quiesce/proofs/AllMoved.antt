-- Behind a list of changes what follows is the same, moved change by change.
use Rattle.std.proofs.Common.{◌≡◌, ℕ, zero, suc, Bool, true, false, ◌||◌, List, [], ◌∷◌, map, Option, Some, None, refl, sym, ap, ◌∙◌, true≢false, unwrap_or}
use Rattle.std.specs.List.{All, list_any}
use Rattle.std.proofs.lemmas.Bool.{and_parts}
use Rattle.tx_bytes.specs.Files.{Files}
use Rattle.tx_files.specs.Changes.{name_of, fits, changed, all_fit, all_changed}
use Rattle.tx_files.specs.declared.edit.Change.{Change}
use Rattle.tx_files.specs.declared.edit.Change.TheVariants.{Edit, Remove}
use Rattle.tx_files.specs.Reads.{Reads, asks_for, asks_for_any}
use Rattle.tx_machine.specs.declared.types.Close.{Close}
use Rattle.tx_machine.specs.declared.types.Close.TheVariants.{Page, Halt, Spent}
use Rattle.tx_machine.specs.declared.types.End.{End as RunEnd}
use Rattle.tx_machine.specs.declared.types.End.TheVariants.{End, Error, Budget, PageLimit}
use Rattle.tx_machine.specs.declared.types.OpenFile.{OpenFile}
use Rattle.tx_event.specs.declared.types.Stop.{Stop}
use Rattle.tx_event.specs.declared.types.Stop.TheVariants.{End as StopEnd, Error as StopError}
use Rattle.tx_machine.specs.Machine.{Formatter}
use Rattle.tx_machine.specs.Opens.{innermost}
use Rattle.tx_machine.specs.Run.{page_start, end_of, error_at}
use Rattle.tx_machine.specs.Turn.{Progress, stretch}
use Rattle.tx_checkpoint.specs.declared.row.Row.{Row}
use Rattle.tx_checkpoint.specs.declared.row.Last.{Last}
use Rattle.tx_checkpoint.specs.Rows.{History, PageRow, rows_in, closed_rows, rows_from}
use Rattle.tx_checkpoint.proofs.Edited.{edited-is}
use Rattle.tx_quiesce.specs.Meeting.{rest_asks, rest_asks_any}
use Rattle.tx_quiesce.specs.Moves.{opens_by, reads_by, carried_opens, carried_page, last_now}
use Rattle.tx_quiesce.specs.Reuse.{moved}
use Rattle.tx_quiesce.specs.Shift.{end_now}
use Rattle.tx_quiesce.proofs.Behind.{BehindBy, AreBehind}
use Rattle.tx_quiesce.proofs.Moved.{moved-rows}
use Rattle.tx_quiesce.proofs.Shifted.{asks-shifted}
use Rattle.tx_quiesce.proofs.TakenAway.{stayed-rows}

-- a rest that asks for no changed file asks neither for the first of them nor for the others
or_parts : (a b : Bool) → (a || b) ≡ false → (a ≡ false) × (b ≡ false)
or_parts true b is = absurd (true≢false is)
or_parts false b is = (refl, is)

module _ {S : Type 0} (c : Change) (changes : List Change) where
  rows_parts : (rows : List (Row S)) → list_any (λ row. asks_for_any row.seen (c ∷ changes)) rows ≡ false
      → (list_any (λ row. asks_for row.seen (name_of c)) rows ≡ false) × (list_any (λ row. asks_for_any row.seen changes) rows ≡ false)
  rows_parts [] none = (refl, refl)
  rows_parts (row ∷ rows) none =
      let both = or_parts (asks_for_any row.seen (c ∷ changes)) (list_any (λ row. asks_for_any row.seen (c ∷ changes)) rows) none in
      let here = or_parts (asks_for row.seen (name_of c)) (asks_for_any row.seen changes) both.0 in
      let there = rows_parts rows both.1 in
      (λ i. here.0 i || there.0 i, λ i. here.1 i || there.1 i)

  pub asks-parts : (rows : List (Row S)) (last : Last) → rest_asks_any rows last (c ∷ changes) ≡ false → (rest_asks rows last (name_of c) ≡ false) × (rest_asks_any rows last changes ≡ false)
  asks-parts rows last none =
      let both = or_parts (list_any (λ row. asks_for_any row.seen (c ∷ changes)) rows) (asks_for_any last.seen (c ∷ changes)) none in
      let here = rows_parts rows both.0 in
      let there = or_parts (asks_for last.seen (name_of c)) (asks_for_any last.seen changes) both.1 in
      (λ i. here.0 i || there.0 i, λ i. here.1 i || there.1 i)

-- where reads move, the same files were asked for
asks_by : (c : Change) (reads : Reads) (name : List ℕ) → asks_for (reads_by c reads) name ≡ asks_for reads name
asks_by (Edit e) reads name = asks-shifted e reads name
asks_by (Remove gone) reads name = refl

any_by : (c : Change) (reads : Reads) (changes : List Change) → asks_for_any (reads_by c reads) changes ≡ asks_for_any reads changes
any_by c reads [] = refl
any_by c reads (d ∷ changes) = λ i. asks_by c reads (name_of d) i || any_by c reads changes i

module _ {S : Type 0} (c : Change) (changes : List Change) where
  rows_by : (pages : List (PageRow S)) → list_any (λ (row : Row S). asks_for_any row.seen changes) (rows_in (map (carried_page (c ∷ [])) pages)) ≡ list_any (λ (row : Row S). asks_for_any row.seen changes) (rows_in pages)
  rows_by [] = refl
  rows_by (page ∷ pages) = λ i. any_by c page.row.seen changes i || rows_by pages i

  pub rest-by : (files : Files) (h : History S) → rest_asks_any (rows_in (moved files (c ∷ []) h).pages) (moved files (c ∷ []) h).last changes ≡ rest_asks_any (rows_in h.pages) h.last changes
  rest-by files h = λ i. rows_by h.pages i || any_by c h.last.seen changes i

-- to move once, and then behind the other changes, is to move behind all
error_twice : (mid after : Files) (opens : List OpenFile) (code : ℕ) (file : Option OpenFile) → end_now after opens (error_at mid code file) ≡ error_at after code (innermost opens)
error_twice mid after opens code None = refl
error_twice mid after opens code (Some file) = refl

end_twice : (mid after : Files) (first opens : List OpenFile) (end : RunEnd) → end_now after opens (end_now mid first end) ≡ end_now after opens end
end_twice mid after first opens End = refl
end_twice mid after first opens (Error code name line) = error_twice mid after opens code (innermost first)
end_twice mid after first opens Budget = refl
end_twice mid after first opens PageLimit = refl

pages_twice : {S : Type 0} (c : Change) (changes : List Change) (pages : List (PageRow S)) → map (carried_page changes) (map (carried_page (c ∷ [])) pages) ≡ map (carried_page (c ∷ changes)) pages
pages_twice c changes [] = refl
pages_twice c changes (page ∷ pages) = ap (λ rest. carried_page (c ∷ changes) page ∷ rest) (pages_twice c changes pages)

moved_twice : {S : Type 0} (mid after : Files) (c : Change) (changes : List Change) (h : History S) → moved after changes (moved mid (c ∷ []) h) ≡ moved after (c ∷ changes) h
moved_twice mid after c changes h =
    let last : Last = last_now after (c ∷ changes) h.last in
    let end = end_twice mid after (opens_by c h.last.opens) last.opens h.last.end in
    λ i. record { pages = pages_twice c changes h.pages i; last = record last { end = end i } }

-- behind no change all stays, since a run's end is told by the files as they are
module _ {S : Type 0} (m : Formatter S) (files : Files) (budget : ℕ) where
  error_stands : (code : ℕ) (opens : List OpenFile) (file : Option OpenFile) → end_now files opens (error_at files code file) ≡ error_at files code (innermost opens)
  error_stands code opens None = refl
  error_stands code opens (Some file) = refl

  stop_stands : (opens : List OpenFile) (stop : Stop) → end_now files opens (end_of files opens stop) ≡ end_of files opens stop
  stop_stands opens StopEnd = refl
  stop_stands opens (StopError code) = error_stands code opens (innermost opens)

  close_stands : (t : Progress S) (close : Close) (later : History S) → end_now files later.last.opens later.last.end ≡ later.last.end
      → end_now files (closed_rows files t close later).last.opens (closed_rows files t close later).last.end ≡ (closed_rows files t close later).last.end
  close_stands t (Page body) later stands = stands
  close_stands t (Halt stop) later stands = stop_stands t.place.opens stop
  close_stands t Spent later stands = refl

  end_stands : (pages : ℕ) (state : S) (opens : List OpenFile) → end_now files (rows_from m files budget pages state opens).last.opens (rows_from m files budget pages state opens).last.end ≡ (rows_from m files budget pages state opens).last.end
  unfolding rows_from
  end_stands zero state opens = refl
  end_stands (suc pages) state opens =
      let t : Progress S = stretch m files (page_start state opens budget) in
      close_stands t (unwrap_or t.close Spent) (rows_from m files budget pages t.place.state t.place.opens) (end_stands pages t.place.state t.place.opens)

  pages_stay : (pages : List (PageRow S)) → map (carried_page []) pages ≡ pages
  pages_stay [] = refl
  pages_stay (page ∷ pages) = ap (λ rest. page ∷ rest) (pages_stay pages)

  moved_none : (pages : ℕ) (state : S) (opens : List OpenFile) → moved files [] (rows_from m files budget pages state opens) ≡ rows_from m files budget pages state opens
  moved_none pages state opens =
      let h : History S = rows_from m files budget pages state opens in
      let end = end_stands pages state opens in
      λ i. record { pages = pages_stay h.pages i; last = record h.last { end = end i } }

-- the run behind a change, and behind a list of changes
module _ {S : Type 0} (m : Formatter S) (budget : ℕ) where
  pub moved-by : (files : Files) (c : Change) → fits files c ≡ true → (pages : ℕ) (state : S) (opens : List OpenFile) → All (BehindBy c) opens
      → rest_asks (rows_in (rows_from m files budget pages state opens).pages) (rows_from m files budget pages state opens).last (name_of c) ≡ false
      → rows_from m (changed files c) budget pages state (opens_by c opens) ≡ moved (changed files c) (c ∷ []) (rows_from m files budget pages state opens)
  moved-by files (Edit e) fit pages state opens behind none = moved-rows e (edited-is files e fit) m budget pages state opens behind none
  moved-by files (Remove gone) fit pages state opens behind none = stayed-rows files gone m budget pages state opens behind none

  pub moved-all : (changes : List Change) (files : Files) → all_fit files changes ≡ true → (pages : ℕ) (state : S) (opens : List OpenFile) → AreBehind changes opens
      → rest_asks_any (rows_in (rows_from m files budget pages state opens).pages) (rows_from m files budget pages state opens).last changes ≡ false
      → rows_from m (all_changed files changes) budget pages state (carried_opens changes opens) ≡ moved (all_changed files changes) changes (rows_from m files budget pages state opens)
  moved-all [] files fit pages state opens behind none = sym (moved_none m files budget pages state opens)
  moved-all (c ∷ changes) files fit pages state opens behind none =
      let h : History S = rows_from m files budget pages state opens in
      let mid : Files = changed files c in
      let after : Files = all_changed mid changes in
      let next : History S = rows_from m mid budget pages state (opens_by c opens) in
      let fitting = and_parts (fits files c) (all_fit mid changes) fit in
      let asks = asks-parts c changes (rows_in h.pages) h.last none in
      let step : next ≡ moved mid (c ∷ []) h = moved-by files c fitting.0 pages state opens behind.0 asks.0 in
      let still : rest_asks_any (rows_in next.pages) next.last changes ≡ false = ap (λ (g : History S). rest_asks_any (rows_in g.pages) g.last changes) step ∙ rest-by c changes mid h ∙ asks.1 in
      moved-all changes mid fitting.1 pages state (opens_by c opens) behind.1 still ∙ ap (moved after changes) step ∙ moved_twice mid after c changes h
