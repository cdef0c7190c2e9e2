-- Reading a script, command by command.
use Rattle.std.proofs.Common.{◌≡◌, ℕ, suc, ◌+◌, ◌-◌, ◌<◌, ◌≤◌, List, [], ◌∷◌, ◌++◌, length, take, refl, sym, ap, ◌∙◌, append_assoc, zero-add, suc-add, arith, inl, inr}
use Rattle.std.specs.Prelude.{Some, Ok, Err, slice_get}
use Rattle.std.specs.List.{flat_map}
use Rattle.std.proofs.lemmas.Grind.{flat_map-append}
use Rattle.std.proofs.lemmas.List.{append-nil, length-append, take_at}
use Rattle.tx_files.specs.declared.edit.Change.TheVariants.{Edit, Remove}
use Rattle.tx_script.specs.declared.command.Command.{Command}
use Rattle.tx_script.specs.declared.command.Command.TheVariants.{Change as Lone, Batch, Save, Locate}
use Rattle.tx_script.specs.declared.error.Broken.{Broken}
use Rattle.tx_script.specs.declared.error.Rule.{Rule}
use Rattle.tx_script.specs.Text.{bytes_of, elements, rules, rules_of, text, IsCommand, IsScript, IsTextOf, BeginsScript, IsNextRule, IsRefusal}
use Rattle.tx_script.specs.Reading.{command_at}
use Rattle.tx_script.proofs.Parts.{two_fronts, slice_get-append_left, slice_get-append_right, bytes_of-append, rules_of-append, length-rules_of}
use Rattle.tx_script.proofs.Forms.{Breaks, one_value, ok_or_err}
use Rattle.tx_script.proofs.Commands.{command_reads}

text-cons : (c : Command) (cs : List Command) → text (c ∷ cs) ≡ bytes_of (elements c) ++ text cs
text-cons c cs = bytes_of-append (elements c) (flat_map elements cs)

text-append : (a b : List Command) → text (a ++ b) ≡ text a ++ text b
text-append a b = ap bytes_of (flat_map-append elements a b) ∙ bytes_of-append (flat_map elements a) (flat_map elements b)

rules-append : (a b : List Command) → rules (a ++ b) ≡ rules a ++ rules b
rules-append a b = ap rules_of (flat_map-append elements a b) ∙ rules_of-append (flat_map elements a) (flat_map elements b)

length-rules : (a : List Command) → length (rules a) ≡ length (text a)
length-rules a = length-rules_of (flat_map elements a)

-- a command's text isn't empty
some_text : (c : Command) → 0 < length (bytes_of (elements c))
some_text (Lone (Edit e)) = omega arith
some_text (Lone (Remove name)) = omega arith
some_text (Batch changes) = omega arith
some_text (Save name) = omega arith
some_text (Locate at) = omega arith

IsScript-append : (a b : List Command) → IsScript a → IsScript b → IsScript (a ++ b)
IsScript-append [] b ha hb = hb
IsScript-append (c ∷ a) b ha hb = (ha.0, IsScript-append a b ha.1 hb)

take_past : (a b : List ℕ) (n : ℕ) → take (length a + n) (a ++ b) ≡ a ++ take n b
take_past [] b n = simp zero-add refl
take_past (x ∷ a) b n = simp suc-add (ap (λ (y : List ℕ). x ∷ y) (take_past a b n))

-- what has been read is in front of what is left
pub record Going (bytes rest : List ℕ) (read : List Command) : Type 0 where
  pub fits : IsScript read
  pub split : bytes ≡ text read ++ rest

pub going-begun : (bytes : List ℕ) → Going bytes bytes []
going-begun bytes = record { fits = tt; split = refl }

pub going-on : {bytes rest after : List ℕ} {read : List Command} {c : Command} → Going bytes rest read → command_at rest ≡ Ok (c, after) → Going bytes after (read ++ c ∷ [])
going-on {bytes} {rest} {after} {read} {c} g e =
    let k = (command_reads rest).takes c after e in
    let one : text (c ∷ []) ≡ bytes_of (elements c) = text-cons c [] ∙ append-nil (bytes_of (elements c)) in
    record {
      fits = IsScript-append read (c ∷ []) g.fits (k.0, tt);
      split = g.split
          ∙ ap (λ (x : List ℕ). text read ++ x) (k.1 ∙ ap (λ (x : List ℕ). x ++ after) (sym one))
          ∙ sym (append_assoc (text read) (text (c ∷ [])) after)
          ∙ ap (λ (x : List ℕ). x ++ after) (sym (text-append read (c ∷ [])));
    }

pub shorter : (rest after : List ℕ) (c : Command) → command_at rest ≡ Ok (c, after) → length after < length rest
shorter rest after c e =
    let k = (command_reads rest).takes c after e in
    omega (arith, some_text c, ap length k.1, length-append (bytes_of (elements c)) after)

pub going-over : {bytes rest : List ℕ} {read : List Command} → Going bytes rest read → length rest ≡ 0 → IsTextOf bytes read
going-over {bytes} {rest = []} {read} g e = (g.fits, g.split ∙ append-nil (text read))
going-over {bytes} {rest = c ∷ rest} {read} g e = absurd (omega arith)

-- a script whose text begins as that of another one goes on as it
goes_on : (read other : List Command) (x : List ℕ) → IsScript read → IsScript other → text other ≡ text read ++ x
    → (more : List Command) × IsScript more × (other ≡ read ++ more) × (text more ≡ x)
goes_on [] other x hr ho e = (other, ho, refl, e)
goes_on (c ∷ read) [] x hr ho e =
    absurd (omega (arith, some_text c, ap length (e ∙ ap (λ (y : List ℕ). y ++ x) (text-cons c read) ∙ append_assoc (bytes_of (elements c)) (text read) x), length-append (bytes_of (elements c)) (text read ++ x)))
goes_on (c ∷ read) (d ∷ other) x hr ho e =
    let same = one_value IsCommand elements command_at command_reads d c (text other) (text read ++ x) ho.0 hr.0
    (sym (text-cons d other) ∙ e ∙ ap (λ (y : List ℕ). y ++ x) (text-cons c read) ∙ append_assoc (bytes_of (elements c)) (text read) x) in
    let k = goes_on read other x hr.1 ho.1 same.1 in
    (k.0, k.1, (λ i. same.0 i ∷ k.2 i), k.3)

pub only_script : {bytes rest : List ℕ} {read : List Command} → Going bytes rest read → length rest ≡ 0 → (other : List Command) → IsTextOf bytes other → read ≡ other
only_script {bytes} {rest} {read} g e other h =
    let mine = going-over g e in
    let k = goes_on read other [] mine.0 h.0 (sym h.1 ∙ mine.1 ∙ sym (append-nil (text read))) in
    same k.0 k.2 k.3
  where
    same : (more : List Command) → other ≡ read ++ more → text more ≡ [] → read ≡ other
    same [] is none = sym (append-nil read) ∙ sym is
    same (c ∷ more) is none = absurd (omega (arith, some_text c, ap length (sym (text-cons c more) ∙ none), length-append (bytes_of (elements c)) (text more)))

-- where a command isn't read, the bytes are refused
pub refusal : {bytes rest : List ℕ} {read : List Command} {b : Broken} → Going bytes rest read → 0 < length rest → command_at rest ≡ Err b
    → (b.left ≤ length bytes) × IsRefusal bytes (length bytes - b.left) b.rule
refusal {bytes} {rest} {read} {b} g some e = (
  omega (arith, sizes),
  record {
    none = none;
    furthest = record {
      within = omega arith;
      begins = (read ++ k.whose ∷ [], k.more, (IsScript-append read (k.whose ∷ []) g.fits (k.fits, tt), ap (λ (x : List ℕ). x ++ k.more) front_is ∙ append_assoc (text read) k.read k.more ∙ whose_text));
      no_further = no_further;
    };
    next = next;
  },
)
  where
    k : Breaks IsCommand elements rest b
    k = (command_reads rest).breaks b e

    front : List ℕ
    front = text read ++ k.read

    split : bytes ≡ front ++ k.rest
    split = g.split ∙ ap (λ (x : List ℕ). text read ++ x) k.split ∙ sym (append_assoc (text read) k.read k.rest)

    sizes : length bytes ≡ length front + b.left
    sizes = ap length split ∙ length-append front k.rest ∙ ap (λ (n : ℕ). length front + n) k.left

    place_is : length bytes - b.left ≡ length front
    place_is = omega (arith, sizes)

    front_is : take (length bytes - b.left) bytes ≡ front
    front_is = (λ i. take (place_is i) (split i)) ∙ take_at front k.rest (length front) refl

    whose_text : text read ++ (k.read ++ k.more) ≡ text (read ++ k.whose ∷ [])
    whose_text = ap (λ (x : List ℕ). text read ++ x) (sym k.begins ∙ sym (append-nil (bytes_of (elements k.whose))) ∙ sym (text-cons k.whose [])) ∙ sym (text-append read (k.whose ∷ []))

    -- no command is read there
    unread : (c : Command) (x : List ℕ) → IsCommand c → rest ≡ bytes_of (elements c) ++ x → ⊥
    unread c x fits h = ok_or_err {A = Command × List ℕ} (c, x) b (sym ((command_reads rest).again c x fits h) ∙ e)

    none : (script : List Command) → IsTextOf bytes script → ⊥
    none script h =
        let t = goes_on read script rest g.fits h.0 (sym h.1 ∙ g.split) in
        by t.0 t.1 t.3
      where
        by : (more : List Command) → IsScript more → text more ≡ rest → ⊥
        by [] fits is = omega (arith, ap length is)
        by (c ∷ more) fits is = unread c (text more) fits.0 (sym is ∙ text-cons c more)

    -- a script that goes on with one more byte: its command there does
    onward : (script : List Command) (next : ℕ) (more : List ℕ) → IsScript script → text script ≡ front ++ next ∷ more
        → (c : Command) × (others : List Command) × (m : List ℕ) × IsCommand c × (script ≡ read ++ c ∷ others) × (bytes_of (elements c) ≡ k.read ++ next ∷ m)
    onward script next more fits is =
        let t = goes_on read script (k.read ++ next ∷ more) g.fits fits (is ∙ append_assoc (text read) k.read (next ∷ more)) in
        by t.0 t.1 t.2 t.3
      where
        by : (others : List Command) → IsScript others → script ≡ read ++ others → text others ≡ k.read ++ next ∷ more
            → (c : Command) × (others : List Command) × (m : List ℕ) × IsCommand c × (script ≡ read ++ c ∷ others) × (bytes_of (elements c) ≡ k.read ++ next ∷ m)
        by [] fits same is = absurd (omega (arith, ap length is, length-append k.read (next ∷ more)))
        by (c ∷ others) fits same is =
            elim (two_fronts (bytes_of (elements c)) (text others) k.read next more (sym (text-cons c others) ∙ is)) [
              | inl f ↦ (c, others, f.0, fits.0, same, f.1)
              | inr f ↦ absurd (unread c (f.0 ++ k.rest) fits.0 (k.split ∙ ap (λ (x : List ℕ). x ++ k.rest) f.1 ∙ append_assoc (bytes_of (elements c)) f.0 k.rest))
            ]

    next : IsNextRule (take (length bytes - b.left) bytes) b.rule
    next script c more h =
        let o = onward script c more h.0 (sym h.1 ∙ ap (λ (x : List ℕ). x ++ c ∷ more) front_is) in
        let here = k.next o.0 c o.2 o.3 o.5 in
        let there : slice_get (rules (o.0 ∷ o.1)) (length k.read) ≡ Some b.rule =
        ap (λ (x : List Rule). slice_get x (length k.read)) (rules_of-append (elements o.0) (flat_map elements o.1)) ∙ slice_get-append_left (rules_of (elements o.0)) (rules_of (flat_map elements o.1)) (length k.read) b.rule here in
        (λ i. slice_get (rules (o.4 i)) (length (front_is i)))
        ∙ (λ i. slice_get (rules-append read (o.0 ∷ o.1) i) ((length-append (text read) k.read ∙ ap (λ (n : ℕ). n + length k.read) (sym (length-rules read))) i))
        ∙ slice_get-append_right (rules read) (rules (o.0 ∷ o.1)) (length k.read)
        ∙ there

    no_further : (longer : ℕ) → length bytes - b.left < longer → longer ≤ length bytes → BeginsScript (take longer bytes) → ⊥
    no_further longer above within h = by k.rest refl
      where
        by : (x : List ℕ) → k.rest ≡ x → ⊥
        by [] is = omega (arith, sizes, sym k.left ∙ ap length is)
        by (c ∷ others) is =
            let place : longer ≡ length front + suc (longer - length front - 1) = omega (arith, sizes) in
            let long : take longer bytes ≡ front ++ c ∷ take (longer - length front - 1) others =
            (λ i. take (place i) ((split ∙ ap (λ (y : List ℕ). front ++ y) is) i)) ∙ take_past front (c ∷ others) (suc (longer - length front - 1)) in
            let o = onward h.0 c (take (longer - length front - 1) others ++ h.1) h.2.0 (sym h.2.1 ∙ ap (λ (x : List ℕ). x ++ h.1) long ∙ append_assoc front (c ∷ take (longer - length front - 1) others) h.1) in
            k.none o.0 c o.2 others o.3 is o.5
