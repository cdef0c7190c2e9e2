-- The two parts of a list as nodes and as items, marks of several parts, and what a `?` answers.
use Rattle.std.proofs.Common.{◌≡◌, ℕ, List, take, drop, Option, Some, None, Result, Ok, Err, refl, ap}
use Rattle.std.specs.Result.{IsErrAnd}
use Rattle.std.specs.List.{take-map, drop-map}
use Rattle.tx_char.specs.declared.tokens.Token.{Token}
use Rattle.tx_node.specs.declared.node.Node.{Node}
use Rattle.tx_node.specs.Nodes.{item_of, list_of}
use Rattle.tx_insert.specs.Splits.{either}

pub taken : (n : ℕ) (xs : List Node) → take n (list_of xs) ≡ list_of (take n xs)
taken n xs = take-map item_of n xs

pub dropped : (n : ℕ) (xs : List Node) → drop n (list_of xs) ≡ list_of (drop n xs)
dropped n xs = drop-map item_of n xs

pub regrouped : (a b c : Option (List Token)) → either (either a b) c ≡ either a (either b c)
regrouped None b c = refl
regrouped (Some mark) b c = refl

pub same-error : {T E : Type 0} (r : Result T E) (e : E) → IsErrAnd r (λ x. x ≡ e) → r ≡ Err e
same-error (Ok made) e same = absurd same
same-error (Err x) e same = ap Err same
