-- The turns of changes, and how many pages they reuse, by the parts of which the new run is made.
use Rattle.std.proofs.Common.{◌≡◌, ℕ, zero, suc, ◌+◌, ◌-◌, ◌≤◌, Bool, true, false, cond, List, [], ◌∷◌, ◌++◌, length, take, drop, min, Option, Some, None, refl, sym, ap, ◌∙◌, arith, length-drop}
use Rattle.std.specs.Prelude.{IfSome}
use Rattle.std.proofs.lemmas.List.{length-append, length-map, length-take-le, drop-drop}
use Rattle.std.proofs.Math.Seq.{drop-append_seam}
use Rattle.tx_bytes.specs.Files.{Files}
use Rattle.tx_files.specs.declared.edit.Change.{Change}
use Rattle.tx_machine.specs.Machine.{Formatter}
use Rattle.tx_checkpoint.specs.Resume.{Begun, after_rows, stands}
use Rattle.tx_checkpoint.specs.Rows.{History, PageRow, rows_in, behind, turns_of, all_turns}
use Rattle.tx_quiesce.specs.Later.{turns_with}
use Rattle.tx_quiesce.specs.Limits.{is_page_limit}
use Rattle.tx_quiesce.specs.Meeting.{Meeting}
use Rattle.tx_quiesce.specs.Reuse.{moved, moved_begun, reused, reused_rows, rest_of, further, reused_by}
use Rattle.tx_quiesce.specs.Moves.{carried_page}
use Rattle.tx_session.specs.Report.{turns_from, formatted_turns, resumed_at, meeting_of, work_by}

pub seam_at : {X : Type 0} (n : ℕ) (xs ys : List X) → length xs ≡ n → drop n (xs ++ ys) ≡ ys
seam_at n xs ys is = ap (λ k. drop k (xs ++ ys)) (sym is) ∙ drop-append_seam xs ys

past_seam : {X : Type 0} (n k : ℕ) (xs ys : List X) → length xs ≡ n → drop (n + k) (xs ++ ys) ≡ drop k ys
past_seam n k xs ys is = sym (drop-drop k n (xs ++ ys)) ∙ ap (drop k) (seam_at n xs ys is)

-- the turns of two parts of some pages are no more than those of all
turns-drop : {S : Type 0} (k : ℕ) (pages : List (PageRow S)) → turns_of (drop k pages) ≤ turns_of pages
turns-drop zero pages = omega arith
turns-drop (suc k) [] = omega arith
turns-drop (suc k) (page ∷ pages) = let less : turns_of (drop k pages) ≤ turns_of pages = turns-drop k pages in omega arith

none_left : {X : Type 0} (n : ℕ) → ◌≡◌ {A = List X} (drop n []) []
none_left zero = refl
none_left (suc n) = refl

turns-parts : {S : Type 0} (first between : ℕ) (pages : List (PageRow S)) → turns_of (take first pages) + turns_of (drop (first + between) pages) ≤ turns_of pages
turns-parts zero between pages =
    let same : 0 + between ≡ between = omega arith in
    let less : turns_of (drop between pages) ≤ turns_of pages = turns-drop between pages in
    let at : turns_of (drop (0 + between) pages) ≡ turns_of (drop between pages) = ap (λ n. turns_of (drop n pages)) same in
    omega arith
turns-parts {S = S} (suc first) between [] = let none : turns_of {S = S} (drop (suc first + between) []) ≡ 0 = ap turns_of (none_left (suc first + between)) in omega (arith, none)
turns-parts (suc first) between (page ∷ pages) =
    let next : suc first + between ≡ suc (first + between) = omega arith in
    let at : turns_of (drop (suc first + between) (page ∷ pages)) ≡ turns_of (drop (first + between) pages) = ap (λ n. turns_of (drop n (page ∷ pages))) next in
    let less : turns_of (take first pages) + turns_of (drop (first + between) pages) ≤ turns_of pages = turns-parts first between pages in
    omega arith

-- the work of changes is no more than all turns of the new run
pub work-least : {S : Type 0} (m : Formatter S) (changes : List Change) (limit : ℕ) (old new : History S) → work_by m changes limit old new ≤ all_turns new
work-least {S = S} m changes limit old new = by (stands old changes) (meeting_of m changes old new)
  where
    k : ℕ
    k = resumed_at old changes

    behind_it : turns_of (drop k new.pages) ≤ turns_of new.pages
    behind_it = turns-drop k new.pages

    parts : (meeting : Meeting) (r : ℕ) (b : Bool) → turns_of (take meeting.formatted (drop k new.pages)) + cond b (turns_from (k + meeting.formatted + r) new) 0 ≤ all_turns new
    parts meeting r true =
        let sum : k + meeting.formatted + r ≡ meeting.formatted + r + k = omega arith in
        let at : drop (k + meeting.formatted + r) new.pages ≡ drop (meeting.formatted + r) (drop k new.pages) = ap (λ n. drop n new.pages) (let both : k + meeting.formatted + r ≡ k + (meeting.formatted + r) = omega arith in both) ∙ sym (drop-drop (meeting.formatted + r) k new.pages) in
        let turns : turns_of (drop (k + meeting.formatted + r) new.pages) ≡ turns_of (drop (meeting.formatted + r) (drop k new.pages)) = ap turns_of at in
        let less : turns_of (take meeting.formatted (drop k new.pages)) + turns_of (drop (meeting.formatted + r) (drop k new.pages)) ≤ turns_of (drop k new.pages) = turns-parts meeting.formatted r (drop k new.pages) in
        omega (arith, behind_it)
    parts meeting r false =
        let less : turns_of (take meeting.formatted (drop k new.pages)) + turns_of (drop (meeting.formatted + 0) (drop k new.pages)) ≤ turns_of (drop k new.pages) = turns-parts meeting.formatted 0 (drop k new.pages) in
        omega (arith, behind_it)

    by : (b : Bool) (o : Option Meeting) → cond b 0 (formatted_turns k (reused_rows limit (length old.pages) k o) old new o) ≤ all_turns new
    by true o = omega arith
    by false None = omega (arith, behind_it)
    by false (Some meeting) = parts meeting (reused_rows limit (length old.pages) k (Some meeting)) (is_page_limit old.last.end)

module _ {S : Type 0} (m : Formatter S) (files : Files) (changes : List Change) (start : Begun S) (budget limit kept : ℕ) (old rest : History S) (front : List (PageRow S)) (size : length front ≡ kept) where
  abbrev pub whole : History S
  whole = behind front rest

  -- the parts behind a meeting
  module _ (meeting : Meeting) (is : rest ≡ reused_by m files changes start budget (limit - kept) old rest (Some meeting)) (within : meeting.formatted ≤ length rest.pages) where
    abbrev moved_rest : History S
    moved_rest = moved files changes (rest_of old meeting.old)

    abbrev many : ℕ
    many = reused_rows limit (length old.pages) kept (Some meeting)

    abbrev tail : History S
    tail = further m files budget (limit - kept - meeting.formatted) (moved_begun changes (after_rows start (take meeting.old (rows_in old.pages)))) moved_rest

    rest_size : length moved_rest.pages ≡ length old.pages - meeting.old
    rest_size = length-map (drop meeting.old old.pages) (carried_page changes) ∙ length-drop meeting.old old.pages

    many_is : reused (limit - kept - meeting.formatted) moved_rest ≡ many
    many_is = ap (min (limit - kept - meeting.formatted)) rest_size

    part_size : length (take (reused (limit - kept - meeting.formatted) moved_rest) moved_rest.pages) ≡ many
    part_size = length-take-le (reused (limit - kept - meeting.formatted) moved_rest) moved_rest.pages (omega arith) ∙ many_is

    front_size : length (take meeting.formatted rest.pages) ≡ meeting.formatted
    front_size = length-take-le meeting.formatted rest.pages within

    pages_are : rest.pages ≡ take meeting.formatted rest.pages ++ (take (reused (limit - kept - meeting.formatted) moved_rest) moved_rest.pages ++ tail.pages)
    pages_are = ap (λ h. h.pages) is

    tail_pages : drop (meeting.formatted + many) rest.pages ≡ tail.pages
    tail_pages =
        ap (drop (meeting.formatted + many)) pages_are
        ∙ past_seam meeting.formatted many (take meeting.formatted rest.pages) (take (reused (limit - kept - meeting.formatted) moved_rest) moved_rest.pages ++ tail.pages) front_size
        ∙ seam_at many (take (reused (limit - kept - meeting.formatted) moved_rest) moved_rest.pages) tail.pages part_size

    tail_turns : turns_from (kept + meeting.formatted + many) whole ≡ all_turns tail
    tail_turns =
        let sum : kept + meeting.formatted + many ≡ kept + (meeting.formatted + many) = omega arith in
        let pages : drop (kept + meeting.formatted + many) whole.pages ≡ tail.pages = ap (λ n. drop n whole.pages) sum ∙ past_seam kept (meeting.formatted + many) front rest.pages size ∙ tail_pages in
        λ i. turns_of (pages i) + (ap (λ h. h.last.turns) is) i

    met-turns : formatted_turns kept many old whole (Some meeting) ≡ turns_with m files changes start budget (limit - kept) old rest (Some meeting)
    met-turns = λ i. turns_of (take meeting.formatted (seam_at kept front rest.pages size i)) + cond (is_page_limit old.last.end) (tail_turns i) 0

    met-few : kept + many ≤ length whole.pages
    met-few =
        let all : length whole.pages ≡ length front + length rest.pages = length-append front rest.pages in
        let parts : length rest.pages ≡ length (take meeting.formatted rest.pages) + length (take (reused (limit - kept - meeting.formatted) moved_rest) moved_rest.pages ++ tail.pages) =
        ap length pages_are ∙ length-append (take meeting.formatted rest.pages) (take (reused (limit - kept - meeting.formatted) moved_rest) moved_rest.pages ++ tail.pages) in
        let reused_part : length (take (reused (limit - kept - meeting.formatted) moved_rest) moved_rest.pages ++ tail.pages) ≡ length (take (reused (limit - kept - meeting.formatted) moved_rest) moved_rest.pages) + length tail.pages = length-append (take (reused (limit - kept - meeting.formatted) moved_rest) moved_rest.pages) tail.pages in
        let of_part : length (take (reused (limit - kept - meeting.formatted) moved_rest) moved_rest.pages) ≡ many = part_size in
        let of_front : length front ≡ kept = size in
        omega arith

  pub turns-are : (o : Option Meeting) → rest ≡ reused_by m files changes start budget (limit - kept) old rest o → IfSome o (λ meeting. meeting.formatted ≤ length rest.pages)
      → formatted_turns kept (reused_rows limit (length old.pages) kept o) old whole o ≡ turns_with m files changes start budget (limit - kept) old rest o
  turns-are None is within = ap (λ pages. turns_of pages + rest.last.turns) (seam_at kept front rest.pages size)
  turns-are (Some meeting) is within = met-turns meeting is within

  pub reused-few : (o : Option Meeting) → rest ≡ reused_by m files changes start budget (limit - kept) old rest o → IfSome o (λ meeting. meeting.formatted ≤ length rest.pages)
      → kept + reused_rows limit (length old.pages) kept o ≤ length whole.pages
  reused-few None is within =
      let all : length whole.pages ≡ length front + length rest.pages = length-append front rest.pages in
      let of_front : length front ≡ kept = size in
      omega arith
  reused-few (Some meeting) is within = met-few meeting is within
