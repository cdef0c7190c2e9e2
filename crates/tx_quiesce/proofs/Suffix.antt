-- From two equal states, with files that read on alike, the same rest comes.
use Rattle.std.proofs.Common.{◌≡◌, ◌≢◌, ℕ, ◌≤◌, Bool, true, false, cond, List, [], length, take, drop, min, Option, Some, None, refl, sym, ap, ◌∙◌, subst, arith, nat_le, unwrap_or, true≢false}
use Rattle.std.specs.List.{AllZip}
use Rattle.std.proofs.lemmas.List.{drop-drop, map-append, take-map, take-take, take-append-le, length-map}
use Rattle.tx_bytes.specs.Files.{Files, content}
use Rattle.tx_files.specs.Reads.{Reads}
use Rattle.tx_machine.specs.declared.types.End.{End as RunEnd}
use Rattle.tx_machine.specs.declared.types.End.TheVariants.{End, Error, Budget, PageLimit}
use Rattle.tx_machine.specs.declared.types.OpenFile.{OpenFile}
use Rattle.tx_machine.specs.Machine.{Formatter}
use Rattle.tx_machine.specs.Opens.{bytes_of, innermost}
use Rattle.tx_machine.specs.Run.{error_at}
use Rattle.tx_checkpoint.specs.Resume.{Begun}
use Rattle.tx_checkpoint.specs.Rows.{History, rows_from}
use Rattle.tx_quiesce.specs.Laws.{ReadsOnAlike, AsksAlike, shown, but_for_line, AreSameRests}
use Rattle.tx_quiesce.specs.Limits.{is_page_limit, cut, gone_on, up_to}
use Rattle.tx_quiesce.specs.Shift.{end_now}
use Rattle.tx_quiesce.proofs.Goes.{goes-on-to, full-rows}
use Rattle.tx_quiesce.proofs.Kin.{IsKin}
use Rattle.tx_quiesce.proofs.KinRows.{PageKin, HistoryKin, kin-rows}
use Rattle.tx_quiesce.proofs.Zips.{zip-map}

-- files that read on alike are kin
alike_kin : (before after : Files) → IsKin before after (ReadsOnAlike before after) (λ _ _. Unit {0}) (λ name. content after name ≡ content before name)
alike_kin before after = record {
  names = λ o p r. r.name;
  rests = λ o p r. r.bytes;
  moves = λ o p r n within. record {
    name = r.name;
    bytes = sym (drop-drop n p.offset (bytes_of after p.name)) ∙ ap (drop n) r.bytes ∙ drop-drop n o.offset (bytes_of before o.name);
  };
  lines = λ o p r n within. tt;
  ends = λ o p r. tt;
  same = λ name is. is;
  opened = λ name is bytes there. record { name = refl; bytes = ap (λ held. drop 0 (unwrap_or held [])) is };
  asked = λ name sight is asks. tt;
}

abbrev no_reads : Reads → Reads → Type 0
no_reads _ _ = Unit {0}

limit_error : (files : Files) (code : ℕ) (file : Option OpenFile) → is_page_limit (error_at files code file) ≡ false
limit_error files code None = refl
limit_error files code (Some file) = refl

pub limit-now : (files : Files) (opens : List OpenFile) (end : RunEnd) → is_page_limit (end_now files opens end) ≡ is_page_limit end
limit-now files opens End = refl
limit-now files opens (Error code name line) = limit_error files code (innermost opens)
limit-now files opens Budget = refl
limit-now files opens PageLimit = refl

is_limit : (end : RunEnd) → is_page_limit end ≡ true → end ≡ PageLimit
is_limit End is = absurd (true≢false (sym is))
is_limit (Error code name line) is = absurd (true≢false (sym is))
is_limit Budget is = absurd (true≢false (sym is))
is_limit PageLimit is = refl

module _ {S : Type 0} (m : Formatter S) (before after : Files) (budget most_old most_new : ℕ) (state : S) (old new : List OpenFile)
    (alike : AllZip (ReadsOnAlike before after) old new) (asks : AsksAlike before after (rows_from m before budget most_old state old)) where
  abbrev here : History S
  here = rows_from m before budget most_old state old

  abbrev there : History S
  there = rows_from m after budget most_old state new

  abbrev begun : Begun S
  begun = record { state = state; opens = new }

  kin : HistoryKin (ReadsOnAlike before after) no_reads after here there
  kin = kin-rows m (alike_kin before after) no_reads (λ log later zip. tt) budget most_old state state old new refl alike asks

  same_shown : shown there.pages ≡ shown here.pages
  same_shown = zip-map (PageKin (ReadsOnAlike before after) no_reads) _ _ (λ p q same i. record { body = same.body i; piece = same.piece i; turns = same.turns i; state = same.state i }) here.pages there.pages kin.pages

  limits_same : is_page_limit there.last.end ≡ is_page_limit here.last.end
  limits_same = ap is_page_limit kin.last.end ∙ limit-now after there.last.opens here.last.end

  abbrev by_cases : Bool → Bool → History S
  by_cases b c = cond b (cut most_new begun there) (cond c (gone_on m after budget most_new begun there) there)

  pages_by : (b c : Bool) → nat_le most_new (length there.pages) ≡ b → is_page_limit there.last.end ≡ c → take (min most_old most_new) (shown (by_cases b c).pages) ≡ take (min most_old most_new) (shown there.pages)
  pages_by true c is limit =
      let lower : min most_old most_new ≤ most_new = omega arith in
      ap (take (min most_old most_new)) (sym (take-map _ most_new there.pages)) ∙ take-take (min most_old most_new) most_new (shown there.pages) lower
  pages_by false true is limit =
      let all : length there.pages ≡ most_old = full-rows m after budget most_old state new limit in
      let inside : min most_old most_new ≤ length (shown there.pages) = rw (length-map there.pages _, all) (omega arith) in
      ap (take (min most_old most_new)) (map-append _ there.pages _) ∙ take-append-le (min most_old most_new) (shown there.pages) _ inside
  pages_by false false is limit = refl

  abbrev WholeBy : History S → Type 0
  WholeBy h = here.last.end ≢ PageLimit → h.last.end ≢ PageLimit → h ≡ there

  whole_by : (b c : Bool) → is_page_limit there.last.end ≡ c → WholeBy (by_cases b c)
  whole_by true c limit not_old not_new = absurd (not_new refl)
  whole_by false true limit not_old not_new = absurd (not_old (is_limit here.last.end (sym limits_same ∙ limit)))
  whole_by false false limit not_old not_new = refl

  is : rows_from m after budget most_new state new ≡ up_to m after budget most_new begun there
  is = goes-on-to m after budget most_new most_old state new

  whole : WholeBy (rows_from m after budget most_new state new)
  whole = subst WholeBy (sym is) (whole_by (nat_le most_new (length there.pages)) (is_page_limit there.last.end) refl)

  pub same-rests : AreSameRests here (rows_from m after budget most_new state new) most_old most_new
  same-rests = record {
    pages = ap (λ h. take (min most_old most_new) (shown h.pages)) is ∙ pages_by (nat_le most_new (length there.pages)) (is_page_limit there.last.end) refl refl ∙ ap (take (min most_old most_new)) same_shown;
    whole = λ not_old not_new. ap (λ h. shown h.pages) (whole not_old not_new) ∙ same_shown;
    last = λ not_old not_new. (
      ap (λ h. h.last.piece) (whole not_old not_new) ∙ kin.last.piece,
      ap (λ h. h.last.turns) (whole not_old not_new) ∙ kin.last.turns,
      ap (λ h. but_for_line h.last.end) (whole not_old not_new) ∙ kin.last.same_end,
    );
  }
