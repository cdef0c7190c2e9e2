use Rattle.std.proofs.Common.{◌≡◌, ◌++◌, ◌∷◌, ℕ, true, false, Option, Some, None, IfSome, List, drop, refl, ap, sym, subst, ◌∙◌}
use Rattle.std.specs.Option.{option_to_list}
use Rattle.tx_char.specs.declared.category.Cat.{Cat}
use Rattle.tx_char.specs.declared.category.Cat.TheVariants.{Letter, Other}
use Rattle.tx_char.specs.declared.tokens.Token.TheVariants.{Character}
use Rattle.tx_char.specs.Category.{category}
use Rattle.tx_lex.specs.declared.types.PlainToken.{PlainToken}
use Rattle.tx_lex.specs.declared.types.PlainToken.TheVariants as plain
use Rattle.tx_lex.specs.declared.types.ReadState.{ReadState}
use Rattle.tx_lex.specs.declared.types.ReadState.TheVariants.{M}
use Rattle.tx_lex.specs.Notation.{is_superscript}
use Rattle.tx_lex.specs.Plain.{Begins, IsPlain, is_set}
use Rattle.tx_lex.specs.Reading.{Read, reading}
use Rattle.tx_lex.specs.Rules as rules
use Rattle.tx_lex.proofs.RuleLaws.{reading-only, reduction-other}
use Rattle.tx_lex.proofs.plain.first_plain.Goals as goal

set-alone : (kind : Cat) → is_set kind ≡ true → is_superscript kind ≡ false
set-alone Letter set = refl
set-alone Other set = refl
set-alone kind set = cc

set-plain : (kind : Cat) → is_set kind ≡ true → rules.IsPlain kind
set-plain Letter set = tt
set-plain Other set = tt
set-plain kind set = absurd (cc set)

reading-set : (codes : List Cat) (state : ReadState) (code : ℕ) (rest : List ℕ) → is_set (category codes code) ≡ true → reading codes state (code ∷ rest) ≡ Read (Character code (category codes code)) rest M
reading-set codes state code rest set =
    sym (reading-only (rules.Plain {state = state} (reduction-other codes code rest (set-alone (category codes code) set)) (set-plain (category codes code) set)))

begins-set : (codes : List Cat) (state : ReadState) (line : List ℕ) (code found : ℕ) → line ≡ code ∷ drop 1 line → found ≡ code → is_set (category codes code) ≡ true → Begins codes state line (plain.Set found)
begins-set codes state line code found first is set =
    subst (λ (c : ℕ). Begins codes state line (plain.Set c)) (sym is)
    (record { set = set; reads = ap (reading codes state) first ∙ reading-set codes state code (drop 1 line) set })

begins-by : (codes : List Cat) (state : ReadState) (line : List ℕ) (code : ℕ) (kind : Cat) (found : Option PlainToken) → line ≡ code ∷ drop 1 line → kind ≡ category codes code → IfSome found (IsPlain code kind state) → IfSome found (Begins codes state line)
begins-by codes state line code kind None first is by = tt
begins-by codes state line code kind (Some (plain.Set found)) first is by = begins-set codes state line code found first by.0 (ap is_set (sym is) ∙ by.1)
begins-by codes state line code kind (Some plain.Blank) first is by = record {
  set = tt;
  reads = (λ i. reading codes (by.1 i) (first i)) ∙ sym (reading-only (rules.Blank (sym is ∙ by.0)));
}

pub returns : goal.returns
returns c =
    begins-by c.args.codes.now c.args.state (option_to_list c.args.front ++ c.args.rest.now) c.in_ok-code.code c.get.result c.plain_by.result c.in_ok-code.ensures c.get.ensures.value c.plain_by.ensures
