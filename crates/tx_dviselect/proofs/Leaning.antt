-- A reader that knows fewer fonts, but all those that are still chosen, meets the same.
use Rattle.std.proofs.Common.{◌≡◌, ℕ, ◌-◌, ◌==◌, ◌||◌, Bool, true, false, cond, nat_le, nat_lt, List, [], ◌∷◌, ◌++◌, length, get_or, drop, fold, Option, Some, None, refl, sym, ap, subst, ◌∙◌, append_assoc}
use Rattle.std.proofs.lemmas.Bool.{eq-eqb}
use Rattle.std.proofs.lemmas.List.Folds.{list_any-append}
use Rattle.tx_dvi.specs.declared.font.FontDefinition.{FontDefinition}
use Rattle.tx_dvi.specs.declared.placed.Registers.{Registers}
use Rattle.tx_dvi.specs.Meaning.{Widths, Reader, operands, carried_out, when_whole, read, is_font_number, is_movement, is_known, choose, choosing, define, defining, definition_in, set_character, popped, with_fonts}
use Rattle.tx_dviselect.specs.Uses.{wants, is_choice, chooses_from}

-- of two tests one is passed, or none
or-true : (a : Bool) → (a || true) ≡ true
or-true true = refl
or-true false = refl

pub or-lift : (a c b : Bool) → (a ≡ true → c ≡ true) → (a || b) ≡ true → (c || b) ≡ true
or-lift true c b h is = ap (λ x. x || b) (h refl)
or-lift false c true h is = or-true c
or-lift false c false h is = absurd (let no : false ≡ true = is in cc)

pub or-none : (a c b : Bool) → (a ≡ false → c ≡ false) → (a || b) ≡ false → (c || b) ≡ false
or-none true c b h is = absurd (let no : true ≡ false = is in cc)
or-none false c b h is = ap (λ x. x || b) (h refl) ∙ is

-- one number more is known
pub known-more : (n m : ℕ) (known others : List ℕ) → (is_known n known ≡ true → is_known n others ≡ true) → is_known n (known ++ m ∷ []) ≡ true → is_known n (others ++ m ∷ []) ≡ true
known-more n m known others h is =
    list_any-append (λ k. k == n) others (m ∷ [])
    ∙ or-lift (is_known n known) (is_known n others) (is_known n (m ∷ [])) h (sym (list_any-append (λ k. k == n) known (m ∷ [])) ∙ is)

pub unknown-more : (n m : ℕ) (known others : List ℕ) → (is_known n known ≡ false → is_known n others ≡ false) → is_known n (known ++ m ∷ []) ≡ false → is_known n (others ++ m ∷ []) ≡ false
unknown-more n m known others h is =
    list_any-append (λ k. k == n) others (m ∷ [])
    ∙ or-none (is_known n known) (is_known n others) (is_known n (m ∷ [])) h (sym (list_any-append (λ k. k == n) known (m ∷ [])) ∙ is)

-- a command that chooses a font
choice-fnt_num : (command : List ℕ) → is_font_number (get_or command 0 0) ≡ true → is_choice (get_or command 0 0 - 171) command ≡ true
choice-fnt_num command is =
    let opcode : ℕ = get_or command 0 0 in
    ap (λ b. cond b (opcode - 171 == opcode - 171) (cond (opcode == 235) (get_or (drop 1 command) 0 0 == opcode - 171) false)) is
    ∙ eq-eqb (opcode - 171) (opcode - 171) refl

choice-fnt1 : (command : List ℕ) → is_font_number (get_or command 0 0) ≡ false → (get_or command 0 0 == 235) ≡ true → is_choice (get_or (drop 1 command) 0 0) command ≡ true
choice-fnt1 command other is =
    let opcode : ℕ = get_or command 0 0 in
    let number : ℕ = get_or (drop 1 command) 0 0 in
    ap (λ b. cond b (opcode - 171 == number) (cond (opcode == 235) (number == number) false)) other
    ∙ ap (λ b. cond b (number == number) false) is
    ∙ eq-eqb number number refl

some_or : {A : Type 0} → A → Option A → A
some_or d None = d
some_or d (Some x) = x

pub some-of : {A : Type 0} {x y : A} → Some x ≡ Some y → x ≡ y
unfolding some_or
some-of {x = x} e = ap (some_or x) e

-- of a reader: it knows the fonts of these numbers alone, and defined these before all others
abbrev pub lean : List FontDefinition → List ℕ → Reader → Reader
lean first known r = record r { fonts = record { chosen = r.fonts.chosen; known = known; defined = first ++ r.fonts.defined } }

-- fonts of these numbers are enough before these bytes: all that a reader still chooses are among them, and it knows all of them
pub record AreEnough (known : List ℕ) (r : Reader) (rest : List ℕ) : Type 0 where
  pub covers : (n : ℕ) → chooses_from n r.begun rest ≡ true → is_known n r.fonts.known ≡ true → is_known n known ≡ true
  pub within : (n : ℕ) → is_known n r.fonts.known ≡ false → is_known n known ≡ false

module _ (widths : Widths) (first : List FontDefinition) where
  -- the lean reader came to what the other came to, and what it knows is enough
  record Follows (rest : List ℕ) (q : Reader) (o : Option Reader) : Type 0 where
    known : List ℕ
    is : o ≡ Some (lean first known q)
    enough : AreEnough known q rest

  record Leads (rest : List ℕ) (o l : Option Reader) : Type 0 where
    leads : (q : Reader) → o ≡ Some q → Follows rest q l

  leads-none : {rest : List ℕ} {l : Option Reader} → Leads rest None l
  leads-none {rest} {l} = record { leads = λ q e. absurd (let no : None ≡ Some q = e in cc) }

  leads-some : {rest : List ℕ} {q : Reader} {l : Option Reader} → Follows rest q l → Leads rest (Some q) l
  leads-some {rest} {q} {l} f = record { leads = λ p e. subst (λ (x : Reader). Follows rest x l) (some-of e) f }

  leads-cond : {rest : List ℕ} {x y l k : Option Reader} (b : Bool) → (b ≡ true → Leads rest x l) → (b ≡ false → Leads rest y k) → Leads rest (cond b x y) (cond b l k)
  leads-cond true one other = one refl
  leads-cond false one other = other refl

  -- a whole command
  module _ (rest known : List ℕ) (r : Reader)
      (covers : (n : ℕ) → chooses_from n [] rest ≡ true → is_known n r.fonts.known ≡ true → is_known n known ≡ true)
      (within : (n : ℕ) → is_known n r.fonts.known ≡ false → is_known n known ≡ false) where
    abbrev here : Reader
    here = record r { begun = [] }

    abbrev there : Reader
    there = lean first known here

    leads-same : Leads rest (Some here) (Some there)
    leads-same = leads-some (record { known = known; is = refl; enough = record { covers = covers; within = within } })

    leads-character : (code : ℕ) (chosen : Option ℕ) → Leads rest (set_character widths code chosen here) (set_character widths code chosen there)
    leads-character code None = leads-none
    leads-character code (Some font) = leads-some (record { known = known; is = refl; enough = record { covers = covers; within = within } })

    leads-popped : (stack : List Registers) → Leads rest (popped stack here) (popped stack there)
    leads-popped [] = leads-none
    leads-popped (last ∷ others) = leads-some (record { known = known; is = refl; enough = record { covers = covers; within = within } })

    leads-choose : (number : ℕ) → (is_known number r.fonts.known ≡ true → is_known number known ≡ true) → Leads rest (choose number here) (choose number there)
    leads-choose number h = by (is_known number r.fonts.known) refl
      where
        by : (b : Bool) → is_known number r.fonts.known ≡ b → Leads rest (cond b (Some (with_fonts (choosing number here.fonts) here)) None) (choose number there)
        by true e = leads-some (record {
          known = known;
          is = ap (λ b. cond {A = Option Reader} b (Some (with_fonts (choosing number there.fonts) there)) None) (h e);
          enough = record { covers = covers; within = within };
        })
        by false e = leads-none

    leads-define : (font : FontDefinition) → Leads rest (define font here) (define font there)
    leads-define font = by (is_known font.number r.fonts.known) refl
      where
        by : (b : Bool) → is_known font.number r.fonts.known ≡ b → Leads rest (cond b None (Some (with_fonts (defining font here.fonts) here))) (define font there)
        by true e = leads-none
        by false e = leads-some (record {
          known = known ++ font.number ∷ [];
          is = ap (λ b. cond {A = Option Reader} b None (Some (with_fonts (defining font there.fonts) there))) (within font.number e)
              ∙ ap (λ (defined : List FontDefinition). Some (record here { fonts = record { chosen = r.fonts.chosen; known = known ++ font.number ∷ []; defined = defined } }))
              (append_assoc first r.fonts.defined (font ∷ []));
          enough = record {
            covers = λ n chosen. known-more n font.number r.fonts.known known (covers n chosen);
            within = λ n. unknown-more n font.number r.fonts.known known (within n);
          };
        })

    leads-carried : (command : List ℕ) → ((n : ℕ) → is_choice n command ≡ true → is_known n r.fonts.known ≡ true → is_known n known ≡ true)
        → Leads rest (carried_out widths (get_or command 0 0) (drop 1 command) here) (carried_out widths (get_or command 0 0) (drop 1 command) there)
    leads-carried command chosen =
        let opcode : ℕ = get_or command 0 0 in
        let bytes : List ℕ = drop 1 command in
        leads-cond (nat_lt opcode 128) (λ _. leads-character opcode r.fonts.chosen) (λ _.
        leads-cond (is_font_number opcode) (λ e. leads-choose (opcode - 171) (chosen (opcode - 171) (choice-fnt_num command e))) (λ other.
        leads-cond (opcode == 128) (λ _. leads-character (get_or bytes 0 0) r.fonts.chosen) (λ _.
        leads-cond (opcode == 235) (λ e. leads-choose (get_or bytes 0 0) (chosen (get_or bytes 0 0) (choice-fnt1 command other e))) (λ _.
        leads-cond (opcode == 243) (λ _. leads-define (definition_in bytes)) (λ _.
        leads-cond (opcode == 132) (λ _. leads-some (record { known = known; is = refl; enough = record { covers = covers; within = within } })) (λ _.
        leads-cond (opcode == 137) (λ _. leads-some (record { known = known; is = refl; enough = record { covers = covers; within = within } })) (λ _.
        leads-cond (opcode == 138) (λ _. leads-same) (λ _.
        leads-cond (opcode == 141) (λ _. leads-some (record { known = known; is = refl; enough = record { covers = covers; within = within } })) (λ _.
        leads-cond (opcode == 142) (λ _. leads-popped r.stack) (λ _.
        leads-cond (nat_le 239 opcode) (λ _. leads-some (record { known = known; is = refl; enough = record { covers = covers; within = within } })) (λ _.
        leads-cond (is_movement opcode) (λ _. leads-some (record { known = known; is = refl; enough = record { covers = covers; within = within } })) (λ _. leads-none))))))))))))

  -- one byte more
  leads-whole : (rest known : List ℕ) (r : Reader) (o : Option ℕ) (bytes : List ℕ)
      → (wants o bytes ≡ true → (n : ℕ) → chooses_from n bytes rest ≡ true → is_known n r.fonts.known ≡ true → is_known n known ≡ true)
      → (wants o bytes ≡ false → (n : ℕ) → (is_choice n bytes || chooses_from n [] rest) ≡ true → is_known n r.fonts.known ≡ true → is_known n known ≡ true)
      → ((n : ℕ) → is_known n r.fonts.known ≡ false → is_known n known ≡ false)
      → Leads rest (when_whole widths o bytes r) (when_whole widths o bytes (lean first known r))
  leads-whole rest known r None bytes wanting whole within = leads-none
  leads-whole rest known r (Some more) bytes wanting whole within =
      leads-cond (nat_le (length bytes) more)
      (λ e. leads-some (record { known = known; is = refl; enough = record { covers = wanting e; within = within } }))
      (λ e. leads-carried rest known r (λ n later. whole e n (ap (λ b. is_choice n bytes || b) later ∙ or-true (is_choice n bytes))) within bytes
      (λ n now. whole e n (ap (λ b. b || chooses_from n [] rest) now)))

  leads-read : (rest known : List ℕ) (r : Reader) (byte : ℕ) → AreEnough known r (byte ∷ rest) → Leads rest (read widths (Some r) byte) (read widths (Some (lean first known r)) byte)
  unfolding chooses_from
  leads-read rest known r byte enough =
      let bytes : List ℕ = r.begun ++ byte ∷ [] in
      leads-whole rest known r (operands (get_or bytes 0 0) bytes) bytes
      (λ e n later. enough.covers n (ap (λ b. cond b (chooses_from n bytes rest) (is_choice n bytes || chooses_from n [] rest)) e ∙ later))
      (λ e n later. enough.covers n (ap (λ b. cond b (chooses_from n bytes rest) (is_choice n bytes || chooses_from n [] rest)) e ∙ later))
      enough.within

  abbrev run : Option Reader → List ℕ → Option Reader
  run o bytes = fold (read widths) o bytes

  none-read : (rest : List ℕ) → run None rest ≡ None
  none-read [] = refl
  none-read (byte ∷ rest) = none-read rest

  -- all bytes, one after the other
  pub record Arrives (q : Reader) (o : Option Reader) : Type 0 where
    pub known : List ℕ
    pub is : o ≡ Some (lean first known q)

  pub goes-along : (rest known : List ℕ) (r q : Reader) → AreEnough known r rest → run (Some r) rest ≡ Some q → Arrives q (run (Some (lean first known r)) rest)
  goes-along [] known r q enough e = record { known = known; is = ap (λ (x : Reader). Some (lean first known x)) (some-of e) }
  goes-along (byte ∷ rest) known r q enough e =
      step (λ known r. goes-along rest known r q) (leads-read rest known r byte enough) (read widths (Some r) byte) refl e
    where
      step : ((known : List ℕ) (r : Reader) → AreEnough known r rest → run (Some r) rest ≡ Some q → Arrives q (run (Some (lean first known r)) rest))
          → Leads rest (read widths (Some r) byte) (read widths (Some (lean first known r)) byte)
          → (o : Option Reader) → read widths (Some r) byte ≡ o → run o rest ≡ Some q → Arrives q (run (read widths (Some (lean first known r)) byte) rest)
      step others leads None is f = absurd (let no : None ≡ Some q = sym (none-read rest) ∙ f in cc)
      step others leads (Some x) is f =
          let follows : Follows rest x (read widths (Some (lean first known r)) byte) = leads.leads x is in
          subst (λ (o : Option Reader). Arrives q (run o rest)) (sym follows.is) (others follows.known x follows.enough f)
