-- The parts of a command's rest, as its scan.
use Rattle.std.proofs.Common.{◌≡◌, ◌≤◌, ℕ, List, [], ◌∷◌, Option, Some, None, refl, ap, sym, ◌∙◌, arith}
use Rattle.tx_seen.specs.declared.error.TexError.{TexError}
use Rattle.tx_seen.specs.declared.fed.Fed.{Fed}
use Rattle.tx_seen.specs.declared.fed.Fed.TheVariants as fed
use Rattle.tx_seen.specs.declared.fed.Want.TheVariants.{Expanded}
use Rattle.tx_seen.specs.declared.item.Item.{Item}
use Rattle.tx_seen.specs.Readings.{Reading, More, Need, Done, Wrong, next, ending}
use Rattle.tx_scan.specs.Dimensions.{dimension, lengths}
use Rattle.tx_scan.specs.Integers.{integer, byte_of}
use Rattle.tx_scan.specs.declared.scans.GlueScan.{GlueScan}
use Rattle.tx_scan.proofs.Mappings.{same-read}
use Rattle.tx_shape.specs.declared.scans.Amount.{Amount}
use Rattle.tx_shape.specs.declared.scans.Amount.TheVariants as amount
use Rattle.tx_shape.specs.declared.scans.Plain.{Plain}
use Rattle.tx_shape.specs.declared.scans.Plain.TheVariants as plain
use Rattle.tx_shape.specs.declared.scans.Registering.{Registering}
use Rattle.tx_shape.specs.declared.scans.ShapeScan.{ShapeScan}
use Rattle.tx_shape.specs.declared.scans.Stage.TheVariants as stage
use Rattle.tx_shape.specs.declared.types.Shaped.{Shaped}
use Rattle.tx_shape.specs.AmountRests.{begun_amount, kind_rest}
use Rattle.tx_shape.specs.Boxes.{by_byte, by_register, penalizing}
use Rattle.tx_shape.specs.Nexts.{behind_byte, behind_number, behind_parameter, behind_register, behind_set, next_rest, plain_rest}
use Rattle.tx_shape.specs.Rests.{Begins, begun_at, held, rest, size_rest, stage_held, stage_needed, stage_rest}

-- what is made of a thing, and then read on
pub next-made : {A B C : Type 0} (r : Reading A) (f : A → B) (on : B → List Item → Reading C) → next (next r (λ a rest. Done (f a) rest)) on ≡ next r (λ a rest. on (f a) rest)
next-made (More want) f on = refl
next-made (Need kind) f on = refl
next-made (Done a rest) f on = refl
next-made (Wrong error) f on = refl

pub next-alike : {A B : Type 0} (r : Reading A) (on other : A → List Item → Reading B) → ((a : A) (rest : List Item) → on a rest ≡ other a rest) → next r on ≡ next r other
next-alike (More want) on other same = refl
next-alike (Need kind) on other same = refl
next-alike (Done a rest) on other same = same a rest
next-alike (Wrong error) on other same = refl

-- what reads on alike
pub begins-alike : (reading other : List Item → Reading Shaped) (new : ShapeScan) (answer : Fed Shaped) → ((more : List Item) → reading more ≡ other more) → Begins other new answer → Begins reading new answer
begins-alike reading other new answer same k = record {
  reads = same-read rest held 0 reading other [] new answer same k.reads;
  fewer = k.fewer;
}

pub begins-wrong : (reading : List Item → Reading Shaped) (new : ShapeScan) (error : TexError) → ((more : List Item) → reading more ≡ Wrong error) → Begins reading new (fed.Wrong error)
begins-wrong reading new error same = record { reads = same; fewer = tt }

pub begins-done : (reading : List Item → Reading Shaped) (new : ShapeScan) (shaped : Shaped) → ((more : List Item) → reading more ≡ Done shaped more) → Begins reading new (fed.Done shaped 0)
begins-done reading new shaped same = record { reads = (omega arith, same); fewer = tt }

-- a part of which nothing is read
plain-unread : (part : Plain) → plain_rest part [] ≡ More Expanded
plain-unread (plain.Equals n) = refl
plain-unread (plain.Needed context) = refl
plain-unread (plain.Goal opening) = refl
plain-unread (plain.Spread opening) = refl
plain-unread (plain.Brace opening goal) = refl
plain-unread (plain.Open opener) = refl
plain-unread (plain.To n context) = refl
plain-unread (plain.ToLetter n context) = refl
plain-unread (plain.FamilyEquals size n) = refl
plain-unread (plain.FamilyFont size n) = refl

pub plain-on : (reading : List Item → Reading Shaped) (part : Plain) (new : ShapeScan) → new.stage ≡ stage.Plain part → ((more : List Item) → reading more ≡ plain_rest part more) → Begins reading new (fed.More Expanded)
plain-on reading part new was same = record {
  reads = (
    same [] ∙ plain-unread part,
    rw was (omega arith),
    λ item more. same (item ∷ more) ∙ ap (λ s. stage_rest s new (ending (stage_held s new) []) item more) (sym was),
  );
  fewer = rw was (omega arith);
}

-- a number or a size of which nothing is read
abbrev pub amount_reading : Amount → List Item → Reading Shaped
amount_reading amount.Penalty items = penalizing items
amount_reading (amount.Register what) items = next (integer items) (λ n rest. next_rest (behind_number what n) rest)
amount_reading (amount.Size what) items = size_rest what items
amount_reading (amount.Number what) items = next (integer items) (λ n rest. next_rest (behind_set what n) rest)
amount_reading amount.FontDimen items = next (integer items) (λ n rest. next_rest (behind_parameter n) rest)

amount-unread : (what : Amount) → amount_reading what [] ≡ More Expanded
amount-unread amount.Penalty = refl
amount-unread (amount.Register what) = refl
amount-unread (amount.Size what) = refl
amount-unread (amount.Number what) = refl
amount-unread amount.FontDimen = refl

pub amount-begun : (what : Amount) (item : Item) (more : List Item) → amount_reading what (item ∷ more) ≡ next (kind_rest what (begun_amount what) [] item more) next_rest
amount-begun amount.Penalty item more = sym (next-made (integer (item ∷ more)) _ next_rest)
amount-begun (amount.Register what) item more = sym (next-made (integer (item ∷ more)) (behind_number what) next_rest)
amount-begun (amount.Size what) item more = sym (next-made (dimension lengths (item ∷ more)) _ next_rest)
amount-begun (amount.Number what) item more = sym (next-made (integer (item ∷ more)) (behind_set what) next_rest)
amount-begun amount.FontDimen item more = sym (next-made (integer (item ∷ more)) behind_parameter next_rest)

none-held : (what : Amount) (glue : GlueScan) → held (begun_at what glue) ≡ 0
none-held amount.Penalty glue = refl
none-held (amount.Register what) glue = refl
none-held (amount.Size what) glue = refl
none-held (amount.Number what) glue = refl
none-held amount.FontDimen glue = refl

none-needed : (what : Amount) (glue : GlueScan) → stage_needed stage.Amount (begun_at what glue) ≤ 0
none-needed amount.Penalty glue = omega arith
none-needed (amount.Register what) glue = omega arith
none-needed (amount.Size what) glue = omega arith
none-needed (amount.Number what) glue = omega arith
none-needed amount.FontDimen glue = omega arith

pub amount-on : (reading : List Item → Reading Shaped) (what : Amount) (glue : GlueScan) (new : ShapeScan) → new ≡ begun_at what glue → ((more : List Item) → reading more ≡ amount_reading what more) → Begins reading new (fed.More Expanded)
amount-on reading what glue new was same = record {
  reads = (
    same [] ∙ amount-unread what,
    rw was (rw (none-held what glue) (omega arith)),
    λ item more.
        same (item ∷ more)
        ∙ (amount-begun what item more
        ∙ (ap (λ (n : ℕ). rest (begun_at what glue) (ending n []) item more) (sym (none-held what glue))
        ∙ ap (λ (scan : ShapeScan). rest scan (ending (held scan) []) item more) (sym was))),
  );
  fewer = rw was (none-needed what glue);
}

-- the number of a register
register-byte : (what : Registering) (on : ℕ → List Item → Reading Shaped) → ((n : ℕ) (rest : List Item) → on n rest ≡ next_rest (behind_register what n) rest) → (byte : Option ℕ) (rest : List Item) → by_byte on byte rest ≡ next_rest (behind_byte what byte) rest
register-byte what on same None rest = refl
register-byte what on same (Some n) rest = same n rest

pub by-register : (what : Registering) (on : ℕ → List Item → Reading Shaped) → ((n : ℕ) (rest : List Item) → on n rest ≡ next_rest (behind_register what n) rest) → (items : List Item) → by_register on items ≡ amount_reading (amount.Register what) items
by-register what on same items = next-alike (integer items) _ _ (λ n rest. register-byte what on same (byte_of n) rest)
