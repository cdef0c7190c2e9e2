use Rattle.std.proofs.Common.{◌≡◌, Bool, true, Option, Some, None, IfSome, List, ◌∷◌, ℕ, ℤ, rules, refl, ap, sym, ◌∙◌}
use Rattle.tx_char.specs.declared.category.Cat.{Cat}
use Rattle.tx_char.specs.declared.category.Cat.TheVariants.{Escape, BeginGroup, EndGroup, MathShift, AlignmentTab, EndOfLine, Parameter, Superscript, Subscript, Ignored, Space, Letter, Other, Active, Comment, Invalid}
use Rattle.tx_char.specs.declared.tokens.Token.{Token as Any_token}
use Rattle.tx_char.specs.declared.tokens.Token.TheVariants.{Character}
use Rattle.tx_char.specs.Category.{category}
use Rattle.tx_lex.specs.declared.types.PlainToken.{PlainToken}
use Rattle.tx_lex.specs.declared.types.PlainToken.TheVariants.{Set, Blank}
use Rattle.tx_lex.specs.Plain.{IsSet, is_set, plain_token, state_behind}
use Rattle.tx_pending.specs.declared.next.Next.TheVariants.{Token}
use Rattle.tx_pending.specs.Elements.{Element, Given, Held, Input, Mark, PartEnd, Step, Unread, level_behind, line_step, step_of}
use Rattle.tx_pending.specs.Plain.{IsNext, passed}
use Rattle.tx_pending.specs.Sources.{stack_elements}
use Rattle.tx_pending.specs.Steps.{BeginsAs, BeginsPlain}
use Rattle.tx_pending.proofs.pending.Pending.first_plain.Goals as goal

-- a character that is set is no brace, and neither is a space
set-level : (level : ℤ) (code : ℕ) (kind : Cat) → is_set kind ≡ true → level_behind level (Character code kind) ≡ level
set-level level code Escape set = absurd (cc)
set-level level code BeginGroup set = absurd (cc)
set-level level code EndGroup set = absurd (cc)
set-level level code MathShift set = absurd (cc)
set-level level code AlignmentTab set = absurd (cc)
set-level level code EndOfLine set = absurd (cc)
set-level level code Parameter set = absurd (cc)
set-level level code Superscript set = absurd (cc)
set-level level code Subscript set = absurd (cc)
set-level level code Ignored set = absurd (cc)
set-level level code Space set = absurd (cc)
set-level level code Letter set = refl
set-level level code Other set = refl
set-level level code Active set = absurd (cc)
set-level level code Comment set = absurd (cc)
set-level level code Invalid set = absurd (cc)

plain-level : (codes : List Cat) (level : ℤ) (plain : PlainToken) → IsSet codes plain → level_behind level (plain_token codes plain) ≡ level
plain-level codes level (Set code) set = set-level level code (category codes code) set
plain-level codes level Blank set = refl

-- what comes next, and is passed
abbrev after : List Cat → Bool → ℤ → PlainToken → List Element → Step
after codes closing level plain elements = record { next = Token (plain_token codes plain); left = record { elements = passed (state_behind plain) elements; closing = closing; level = level } }

-- a token that comes next, at the level behind it
abbrev read-token : Bool → ℤ → List Element → Any_token → Step
read-token closing level behind token = record { next = Token token; left = record { elements = behind; closing = closing; level = level_behind level token } }

-- so it is at this level
abbrev token-stays : Bool → List Element → Any_token → ℤ → Step
token-stays closing behind token level = record { next = Token token; left = record { elements = behind; closing = closing; level = level } }

-- what an element begins with comes next, whatever is behind it
element-gives : (codes : List Cat) (closing : Bool) (level : ℤ) (plain : PlainToken) (element : Element) (behind : List Element) → BeginsAs codes element plain → step_of codes closing level (element ∷ behind) ≡ after codes closing level plain (element ∷ behind)
element-gives codes closing level plain (Given token) behind begins = ap (read-token closing level behind) begins.1 ∙ ap (token-stays closing behind (plain_token codes plain)) (plain-level codes level plain begins.0)
element-gives codes closing level plain (Held token) behind begins = absurd begins
element-gives codes closing level plain Mark behind begins = absurd begins
element-gives codes closing level plain (PartEnd part) behind begins = absurd begins
element-gives codes closing level plain (Unread unread state) behind begins =
    ap (line_step closing level (Unread unread state) behind) begins.reads
    ∙ ap (token-stays closing (passed (state_behind plain) (Unread unread state ∷ behind)) (plain_token codes plain)) (plain-level codes level plain begins.set)

is-set : (codes : List Cat) (plain : PlainToken) (element : Element) → BeginsAs codes element plain → IsSet codes plain
is-set codes plain (Given token) begins = begins.0
is-set codes plain (Held token) begins = absurd begins
is-set codes plain Mark begins = absurd begins
is-set codes plain (PartEnd part) begins = absurd begins
is-set codes plain (Unread unread state) begins = begins.set

next-plain : (codes : List Cat) (input : Input) (elements : List Element) (found : Option PlainToken) → input.elements ≡ elements → IfSome found (BeginsPlain codes elements) → IfSome found (IsNext codes input)
next-plain codes input elements None same begins = tt
next-plain codes input elements (Some plain) same begins = record {
  set = is-set codes plain begins.element begins.first;
  next = ap (step_of codes input.closing input.level) (same ∙ begins.is) ∙ element-gives codes input.closing input.level plain begins.element begins.behind begins.first ∙ ap (after codes input.closing input.level plain) (sym (same ∙ begins.is));
}

pub returns : goal.returns
returns c =
    let same : c.args.self.now.elements ≡ stack_elements c.deref.result.now = search rules in
    next-plain c.args.codes.now c.args.self.now (stack_elements c.deref.result.now) c.first_plain.result same c.first_plain.ensures
