-- What a document that is typed shows, by what it keeps.
use Rattle.std.proofs.Common.{◌≡◌, ℕ, ◌≤◌, ◌==◌, Bool, true, false, true≢false, List, [], ◌∷◌, ◌++◌, length, take, Option, Some, None, refl, sym, ap, subst, ◌∙◌, arith}
use Rattle.std.proofs.lemmas.Bool.{eqb-true}
use Rattle.std.proofs.lemmas.List.{length-map}
use Rattle.tx_bytes.specs.Files.{Files}
use Rattle.tx_files.specs.declared.edit.Change.{Change}
use Rattle.tx_files.specs.Changes.{all_fit, all_changed, AreSmall}
use Rattle.tx_machine.specs.Machine.{Formatter}
use Rattle.tx_checkpoint.specs.Locate.{located_in, located}
use Rattle.tx_checkpoint.specs.Meant.{AreSame}
use Rattle.tx_checkpoint.proofs.Locating.{located-told}
use Rattle.tx_session.specs.declared.kept.Earlier.{Earlier}
use Rattle.tx_session.specs.declared.kept.Made.{Made}
use Rattle.tx_session.specs.Cut.{base_of, since_of, standing_of, IsLed, IsCut, IsKept, ShowsLive}
use Rattle.tx_session.specs.Held.{Held, fresh, rows_of, joined_with, transcript, with_files}
use Rattle.tx_session.specs.Shows.{Shows}
use Rattle.tx_session.specs.Report.{report, work}
use Rattle.tx_session.specs.Standing.{Standing, now, settled, keeps, made_of, report_since, work_since, turns_since}
use Rattle.tx_session.proofs.Coming.{led-same, cut-same, led-on}
use Rattle.tx_session.proofs.Showing.{fresh-tells, fresh-few, one-length}
use Rattle.tx_session.proofs.Standings.{made-kept, made-settled, report-made, work-made, turns-made}

some_or : {A : Type 0} → A → Option A → A
some_or d None = d
some_or d (Some x) = x

pub some-of : {A : Type 0} {x y : A} → Some x ≡ Some y → x ≡ y
unfolding some_or
some-of {x = x} e = ap (some_or x) e

-- whether there are changes
pub not-none : {changes : List Change} {b : Bool} → b ≡ (length changes == 0) → b ≡ false → changes ≡ [] → ⊥
not-none told is none = true≢false (sym (ap (λ (some : List Change). length some == 0) none) ∙ sym told ∙ is)

pub are-none : {changes : List Change} {b : Bool} → b ≡ (length changes == 0) → b ≡ true → changes ≡ []
are-none {changes = []} told is = refl
are-none {changes = c ∷ changes} told is = absurd (let none : length (c ∷ changes) ≡ 0 = eqb-true (length (c ∷ changes)) 0 (sym told ∙ is) in omega (arith, none))

-- the run that was cut off, by its rows
module _ {S M : Type 0} {m : Formatter M} {meaning : S → M} {held : Held} {made : Made S} {e : Earlier S} (kept : IsKept m meaning held made e) where
  pub cut-pages-are : take e.cut.kept made.rows.pages.items ++ e.cut.part.pages.items ≡ (fresh m held).ran.pages
  cut-pages-are = kept.cut.pages_are ∙ sym (ap (λ c. c.ran.pages) (fresh-tells m held))

  pub cut-pieces-are : take e.cut.kept made.rows.pieces.items ++ e.cut.part.pieces.items ≡ (fresh m held).ran.pieces
  cut-pieces-are = kept.cut.pieces_are ∙ sym (ap (λ c. c.ran.pieces) (fresh-tells m held))

  pub cut-end-is : e.cut.last.end ≡ (fresh m held).ran.end
  cut-end-is = ap (λ last. last.end) kept.cut.last_is ∙ sym (ap (λ c. c.ran.end) (fresh-tells m held))

  pub cut-said-is : e.cut.said ≡ transcript (fresh m held).ran
  cut-said-is = kept.cut.said ∙ (λ i. joined_with (kept.cut.pieces_are i) (kept.cut.last_is i).piece) ∙ sym (ap (λ c. transcript c.ran) (fresh-tells m held))

  pub cut-located : (name : List ℕ) (place : ℕ) → located_in (take e.cut.kept made.rows.rows.items ++ e.cut.part.rows.items) e.cut.last name place ≡ located (rows_of m held) name place
  cut-located name place = located-told meaning (take e.cut.kept made.rows.rows.items ++ e.cut.part.rows.items) (rows_of m held) name place kept.cut.rows_are kept.cut.last_is

module _ {S M : Type 0} {m : Formatter M} {meaning : S → M} {pending : S → List ℕ} {held : Held} {made : Made S} {earlier : Option (Earlier S)} (shows : ShowsLive m meaning pending held made earlier) where
  -- where the document stands, its files are as they are now
  pub now-is : now (standing_of held earlier) ≡ held
  now-is = ap (with_files held) (sym shows.led.led)

  -- with no earlier run it is a session
  pub alone : earlier ≡ None → Shows m meaning pending held made
  alone is = subst (λ (o : Option (Earlier S)). Shows m meaning pending (with_files held (base_of held.files o)) made) is shows.led.shows

  pub held-is : {standing : Standing} → standing_of held earlier ≡ standing → held ≡ now standing
  held-is is = sym now-is ∙ ap now is

  -- its pages are few
  pub few-pages : length (fresh m held).ran.pages ≤ held.limits.pages
  few-pages =
      let same : length (fresh m held).ran.pages ≡ length (rows_of m held).pages = ap (λ c. length c.ran.pages) (fresh-tells m held) ∙ length-map (rows_of m held).pages (λ page. page.body) in
      omega (arith, same, fresh-few m held)

  -- what is kept of an earlier run has pages, pieces and rows for the first ones
  pub kept-pages : (e : Earlier S) → earlier ≡ Some e → e.cut.kept ≤ length made.rows.pages.items
  kept-pages e is = omega (arith, (shows.kept e is).cut.within, (one-length shows.led.shows (since_of earlier) shows.led.fits shows.led.led).pages_are)

  pub kept-pieces : (e : Earlier S) → earlier ≡ Some e → e.cut.kept ≤ length made.rows.pieces.items
  kept-pieces e is = omega (arith, (shows.kept e is).cut.within, (one-length shows.led.shows (since_of earlier) shows.led.fits shows.led.led).pieces_are)

  -- the files are as they were
  pub restored : {files : Files} → files ≡ held.files → ShowsLive m meaning pending (with_files held files) made earlier
  restored is = subst (λ (files : Files). ShowsLive m meaning pending (with_files held files) made earlier) (sym is) shows

  pub restored-standing : {files : Files} → files ≡ held.files → standing_of (with_files held files) earlier ≡ standing_of held earlier
  restored-standing is = ap (λ (files : Files). standing_of (with_files held files) earlier) is

-- what was alone is a document with no earlier run
pub shows-alone : {S M : Type 0} {m : Formatter M} {meaning : S → M} {pending : S → List ℕ} {held : Held} {made : Made S} → Shows m meaning pending held made → ShowsLive m meaning pending held made None
shows-alone shows = record {
  led = record { shows = shows; fits = refl; small = refl; led = refl };
  kept = λ e is. absurd (let no : None ≡ Some e = is in cc);
}

-- an earlier run with the one that was cut off
pub shows-beside : {S M : Type 0} {m : Formatter M} {meaning : S → M} {pending : S → List ℕ} {held : Held} {made : Made S} (e : Earlier S) → IsLed m meaning pending e.files held made e.since → IsCut meaning made e.cut (rows_of m held)
    → keeps m 1000 (record { base = with_files held e.files; since = e.since }) ≡ true → ShowsLive m meaning pending held made (Some e)
shows-beside {S = S} {m = m} {meaning = meaning} {held = held} {made = made} e led cut keeps_it = record {
  led = led;
  kept = λ x is. subst (λ (y : Earlier S). IsKept m meaning held made y) (some-of is) (record { cut = cut; keeps_it = keeps_it });
}

-- in memory of its own
pub shows-live-same : {S M : Type 0} {m : Formatter M} {meaning : S → M} {pending : S → List ℕ} {held : Held} {made : Made S} {earlier : Option (Earlier S)} (new : Made S) → ShowsLive m meaning pending held made earlier
    → AreSame made.rows new.rows → new.said ≡ made.said → ShowsLive m meaning pending held new earlier
shows-live-same new shows same said = record {
  led = led-same shows.led new same said;
  kept = λ e is. let kept = shows.kept e is in record { cut = cut-same new kept.cut same; keeps_it = kept.keeps_it };
}

-- changes that were made of the files
module _ {S M : Type 0} {m : Formatter M} {meaning : S → M} {pending : S → List ℕ} {held : Held} {made : Made S} {earlier : Option (Earlier S)} (shows : ShowsLive m meaning pending held made earlier)
    (files : Files) (changes all : List Change) (fit : all_fit held.files changes ≡ true) (few : AreSmall held.files changes) (changed : files ≡ all_changed held.files changes)
    (all_is : all ≡ since_of earlier ++ changes) where
  abbrev t : Standing
  t = standing_of held earlier

  abbrev base : Files
  base = base_of held.files earlier

  abbrev after : Held
  after = with_files held files

  -- are changes of the run of which changes are made, with those since
  pub led-now : IsLed m meaning pending base after made all
  led-now = subst (λ (some : List Change). IsLed m meaning pending base after made some) (sym all_is) (led-on shows.led changes fit few changed)

  now-next : now (record t { since = t.since ++ changes }) ≡ after
  now-next = ap (with_files held) (ap (all_changed base) (sym all_is) ∙ sym led-now.led)

  keeps-now : keeps m 1000 (record t { since = t.since ++ changes }) ≡ keeps m 1000 (record { base = with_files after base; since = all })
  keeps-now = ap (λ (since : List Change). keeps m 1000 (record { base = with_files held base; since = since })) (sym all_is)

  module _ (some : changes ≡ [] → ⊥) where
    pub report-now : report m (with_files after base) all ≡ report_since m t changes
    report-now = ap (report m (with_files held base)) all_is ∙ sym (report-made m 1000 t changes some)

    pub work-now : work m (with_files after base) all ≡ work_since m t changes
    work-now = ap (work m (with_files held base)) all_is ∙ sym (work-made m 1000 t changes some)

    pub turns-now : work m (with_files after base) all ≡ turns_since m t changes
    turns-now = work-now ∙ sym (turns-made m 1000 t changes (ap (λ (h : Held). all_fit h.files changes) (now-is shows) ∙ fit))

    -- the earlier run isn't kept any more
    pub settled-now : keeps m 1000 (record { base = with_files after base; since = all }) ≡ false → standing_of {S = S} after None ≡ made_of m 1000 t changes
    settled-now lets_go = sym (made-settled m 1000 t changes some (keeps-now ∙ lets_go) ∙ ap settled now-next)

    -- or it is
    module _ (e : Earlier S) (files_is : e.files ≡ base) (since_is : e.since ≡ all) (keeps_it : keeps m 1000 (record { base = with_files after base; since = all }) ≡ true) where
      pub kept-now : standing_of after (Some e) ≡ made_of m 1000 t changes
      kept-now = (λ i. record { base = with_files held (files_is i); since = (since_is ∙ all_is) i }) ∙ sym (made-kept m 1000 t changes some (keeps-now ∙ keeps_it))

      pub kept-shows : {new : Made S} → new ≡ made → IsCut meaning made e.cut (rows_of m after) → ShowsLive m meaning pending after new (Some e)
      kept-shows {new} new_is cut = shows-beside e
          (subst (λ (x : Made S). IsLed m meaning pending e.files after x e.since) (sym new_is)
          (subst (λ (since : List Change). IsLed m meaning pending e.files after made since) (sym since_is) (subst (λ (f : Files). IsLed m meaning pending f after made all) (sym files_is) led-now)))
          (subst (λ (x : Made S). IsCut meaning x e.cut (rows_of m after)) (sym new_is) cut)
          ((λ i. keeps m 1000 (record { base = with_files after (files_is i); since = since_is i })) ∙ keeps_it)
