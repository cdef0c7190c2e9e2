-- A page alone means what it means behind the pages that define its fonts.
use Rattle.std.proofs.Common.{◌≡◌, ℕ, suc, ◌+◌, ◌==◌, ◌||◌, Bool, true, false, cond, List, [], ◌∷◌, ◌++◌, length, get_or, Option, Some, None, refl, sym, ap, ◌∙◌, arith, append_assoc}
use Rattle.std.specs.List.{flat_map, All}
use Rattle.std.proofs.lemmas.Bool.{eqb-true, ne_eqb}
use Rattle.std.proofs.lemmas.List.{append-nil}
use Rattle.std.proofs.lemmas.List.Folds.{list_any-append}
use Rattle.tx_dvi.specs.declared.font.FontDefinition.{FontDefinition}
use Rattle.tx_dvi.specs.Dvi.{definition_bytes, IsDefinable}
use Rattle.tx_dvi.specs.Meaning.{Widths, Contents, Reader, all_met, meaning, page_start, is_known}
use Rattle.tx_dvi.specs.Page.{Page}
use Rattle.tx_dvi.proofs.Reading.{run, run-append, run-fnt_def1, reader}
use Rattle.tx_dviselect.specs.Uses.{chooses, borrowed}
use Rattle.tx_dviselect.specs.Alone.{alone, numbers, AreApart, MeansTheSame}
use Rattle.tx_dviselect.proofs.Leaning.{lean, AreEnough, Arrives, goes-along, some-of}

-- whether a number is that of a font, or of one behind it
or-false : (a b : Bool) → (a || b) ≡ false → (a ≡ false) × (b ≡ false)
or-false true b is = absurd (let no : true ≡ false = is in cc)
or-false false b is = (refl, is)

or-by : (a b : Bool) → (a || b) ≡ true → (a ≡ false → b ≡ true)
or-by true b is e = absurd (let no : true ≡ false = e in cc)
or-by false b is e = is

or-second : (a b : Bool) → b ≡ true → (a || b) ≡ true
or-second true b is = refl
or-second false b is = is

module _ (body : List ℕ) where
  -- all that a page chooses of the earlier fonts is among those that it borrows
  covers : (earlier : List FontDefinition) (n : ℕ) → chooses n body ≡ true → is_known n (numbers earlier) ≡ true → is_known n (numbers (borrowed earlier body)) ≡ true
  covers [] n chosen is = is
  covers (font ∷ others) n chosen is = by (font.number == n) refl (covers others n chosen)
    where
      behind : (b : Bool) → is_known n (numbers (borrowed others body)) ≡ true → is_known n (numbers (cond b (font ∷ []) [] ++ borrowed others body)) ≡ true
      behind true h = or-second (font.number == n) (is_known n (numbers (borrowed others body))) h
      behind false h = h

      by : (b : Bool) → (font.number == n) ≡ b → (is_known n (numbers others) ≡ true → is_known n (numbers (borrowed others body)) ≡ true) → is_known n (numbers (borrowed (font ∷ others) body)) ≡ true
      by true e later =
          let same : font.number ≡ n = eqb-true font.number n e in
          ap (λ (b : Bool). is_known n (numbers (cond b (font ∷ []) [] ++ borrowed others body))) (ap (λ (k : ℕ). chooses k body) same ∙ chosen)
          ∙ ap (λ (b : Bool). b || is_known n (numbers (borrowed others body))) e
      by false e later = behind (chooses font.number body) (later (or-by (font.number == n) (is_known n (numbers others)) is e))

  -- and no other
  within : (earlier : List FontDefinition) (n : ℕ) → is_known n (numbers earlier) ≡ false → is_known n (numbers (borrowed earlier body)) ≡ false
  within [] n is = is
  within (font ∷ others) n is =
      let parts = or-false (font.number == n) (is_known n (numbers others)) is in
      by (chooses font.number body) parts.0 (within others n parts.1)
    where
      by : (b : Bool) → (font.number == n) ≡ false → is_known n (numbers (borrowed others body)) ≡ false → is_known n (numbers (cond b (font ∷ []) [] ++ borrowed others body)) ≡ false
      by true first later = ap (λ (b : Bool). b || is_known n (numbers (borrowed others body))) first ∙ later
      by false first later = later

  -- a reader at the start of a page that has defined these fonts
  abbrev begun : List ℕ → List FontDefinition → Reader
  begun known defined = reader (page_start []).now (record { chosen = None; known = known; defined = defined }) [] []

  abbrev AreNew : List ℕ → List FontDefinition → Type 0
  AreNew known fonts = All (λ (font : FontDefinition). is_known font.number known ≡ false) fonts

  -- none of the others is known behind one that has another number
  new-still : (known : List ℕ) (font : FontDefinition) (others : List FontDefinition) → AreNew known others → All (λ (other : FontDefinition). other.number ≡ font.number → ⊥) others → AreNew (known ++ font.number ∷ []) others
  new-still known font others new apart k d h =
      let other : FontDefinition = get_or others k d in
      list_any-append (λ n. n == other.number) known (font.number ∷ [])
      ∙ ap (λ (b : Bool). b || ((font.number == other.number) || false)) (new k d h)
      ∙ ap (λ (b : Bool). b || false) (ne_eqb font.number other.number (λ same. apart k d h (sym same)))

  -- the definitions of some fonts are read one after the other
  abbrev Defines : Widths → List FontDefinition → List ℕ → List FontDefinition → Type 0
  Defines widths fonts known defined = run widths (Some (begun known defined)) (flat_map definition_bytes fonts) ≡ Some (begun (known ++ numbers fonts) (defined ++ fonts))

  -- so those of what is borrowed
  defines : (widths : Widths) (earlier : List FontDefinition) (known : List ℕ) (defined : List FontDefinition) → All IsDefinable earlier → AreApart earlier → AreNew known earlier
      → Defines widths (borrowed earlier body) known defined
  defines widths [] known defined fit apart new = λ i. Some (begun (sym (append-nil known) i) (sym (append-nil defined) i))
  defines widths (font ∷ others) known defined fit apart new =
      by (chooses font.number body) (defines widths others known defined fit_later apart.1 new_later)
      (defines widths others (known ++ font.number ∷ []) (defined ++ font ∷ []) fit_later apart.1 (new-still known font others new_later apart.0))
    where
      fit_later : All IsDefinable others
      fit_later = λ k d h. fit (suc k) d (omega (arith, h))

      new_later : AreNew known others
      new_later = λ k d h. new (suc k) d (omega (arith, h))

      by : (b : Bool) → Defines widths (borrowed others body) known defined → Defines widths (borrowed others body) (known ++ font.number ∷ []) (defined ++ font ∷ []) → Defines widths (cond b (font ∷ []) [] ++ borrowed others body) known defined
      by true left taken =
          let later : List FontDefinition = borrowed others body in
          run-append widths (Some (begun known defined)) (definition_bytes font) (flat_map definition_bytes later)
          ∙ ap (λ (o : Option Reader). run widths o (flat_map definition_bytes later))
          (run-fnt_def1 widths (page_start []).now (record { chosen = None; known = known; defined = defined }) [] [] font (fit 0 font (omega arith)) (new 0 font (omega arith)))
          ∙ taken
          ∙ (λ i. Some (begun (append_assoc known (font.number ∷ []) (numbers later) i) (append_assoc defined (font ∷ []) later i)))
      by false left taken = left

-- what the lean reader brings
brings : (first : List FontDefinition) (known : List ℕ) (q : Reader) (contents : Contents) → all_met (Some q) ≡ Some contents → all_met (Some (lean first known q)) ≡ Some (record contents { fonts = first ++ contents.fonts })
brings first known q contents e = by (length q.stack + length q.begun == 0) e
  where
    by : (b : Bool) → cond {A = Option Contents} b (Some (record { placed = q.met; fonts = q.fonts.defined })) None ≡ Some contents
        → cond {A = Option Contents} b (Some (record { placed = q.met; fonts = first ++ q.fonts.defined })) None ≡ Some (record contents { fonts = first ++ contents.fonts })
    by true f = ap (λ (c : Contents). Some (record c { fonts = first ++ c.fonts })) (some-of f)
    by false f = absurd (let no : None ≡ Some contents = f in cc)

pub means-the-same : (widths : Widths) (earlier : List FontDefinition) (page : Page) → MeansTheSame widths earlier page
unfolding meaning
means-the-same widths earlier page contents fit apart means = by (run widths (Some (page_start (numbers earlier))) page.body) refl means
  where
    by : (o : Option Reader) → run widths (Some (page_start (numbers earlier))) page.body ≡ o → all_met o ≡ Some contents
        → all_met (run widths (Some (page_start [])) (alone earlier page).body) ≡ Some (record contents { fonts = borrowed earlier page.body ++ contents.fonts })
    by None is met = absurd (let no : None ≡ Some contents = met in cc)
    by (Some q) is met =
        let first : List FontDefinition = borrowed earlier page.body in
        let enough : AreEnough (numbers first) (page_start (numbers earlier)) page.body = record { covers = λ n. covers page.body earlier n; within = λ n. within page.body earlier n } in
        let arrives : Arrives widths first q (run widths (Some (lean first (numbers first) (page_start (numbers earlier)))) page.body) = goes-along widths first page.body (numbers first) (page_start (numbers earlier)) q enough is in
        ap all_met (
        run-append widths (Some (page_start [])) (flat_map definition_bytes first) page.body
        ∙ ap (λ (o : Option Reader). run widths o page.body) (defines page.body widths earlier [] [] fit apart (λ k d h. refl))
        ∙ ap (λ (l : List FontDefinition). run widths (Some (begun page.body (numbers first) l)) page.body) (sym (append-nil first))
        ∙ arrives.is)
        ∙ brings first arrives.known q contents met
