-- The search for a break, as it goes over the nodes of a list.
use Rattle.std.proofs.Common.{◌≡◌, ◌+◌, ◌<◌, ◌≤◌, ℕ, suc, ℤ, pos, Bool, true, false, List, ◌∷◌, get_or, take, drop, length, ◌-◌, Option, Some, Ok, Err, sym, ap, ◌∙◌, drop-cons, add-one, arith, length-drop}
use Rattle.std.proofs.lemmas.List.{drop_all, take_all}
use Rattle.std.specs.Prelude.{neg_ℤ}
use Rattle.tx_node.specs.declared.node.Node.{Node}
use Rattle.tx_node.specs.Nodes.{item_of, list_of}
use Rattle.tx_insert.specs.declared.error.SplitError.{SplitError}
use Rattle.tx_insert.specs.declared.kind.Kind.{Kind}
use Rattle.tx_insert.specs.declared.sums.Sums.{Sums}
use Rattle.tx_insert.specs.declared.trial.Break.{Break}
use Rattle.tx_insert.specs.declared.trial.Trial.{Trial}
use Rattle.tx_insert.specs.Kinds.{kind_of, kinds_of, stays, begins_with_glue, penalty_at}
use Rattle.tx_insert.specs.Sums.{no_sums, with_item}
use Rattle.tx_insert.specs.Breaks.{no_break, found, with_place}
use Rattle.tx_insert.proofs.Searching.{search_from, goes-on, fails, is-over, ends}

-- the kinds from a place on
abbrev pub kinds_from : List Node → ℕ → List Kind
kinds_from xs place = kinds_of (list_of (drop place xs))

here : (xs : List Node) (place : ℕ) (x : Node) (kind : Kind) → place < length xs → x ≡ get_or xs place x → kind ≡ kind_of (item_of x)
    → kinds_from xs place ≡ kind ∷ kinds_from xs (place + 1)
here xs place x kind h is kind_is =
    ap (λ ys. kinds_of (list_of ys)) (drop-cons xs place x h)
    ∙ ap (λ y. kind_of (item_of y) ∷ kinds_from xs (suc place)) (sym is)
    ∙ ap (λ k. k ∷ kinds_from xs (suc place)) (sym kind_is)
    ∙ ap (λ n. kind ∷ kinds_from xs n) (sym (add-one place))

-- what is known of a place that is tried
pub record IsTried (goal : ℤ) (best : Break) (place : ℕ) (after_solid : Bool) (sums : Sums) (xs : List Node) (kind : Kind) (made : Trial) : Type 0 where
  pub x : Node
  pub within : place < length xs
  pub is : x ≡ get_or xs place x
  pub kind_is : kind ≡ kind_of (item_of x)
  pub tried : made ≡ with_place best goal place (penalty_at after_solid kind (begins_with_glue (kinds_from xs (place + 1)))) sums

rest-is : (n : ℕ) (xs : List Node) → take (length xs - n) (drop n xs) ≡ drop n xs
rest-is n xs = take_all (length xs - n) (drop n xs) (omega (arith, length-drop n xs))

pub tried-at : (goal : ℤ) (best : Break) (place : ℕ) (after_solid : Bool) (sums : Sums) (xs : List Node) (x : Node) (kind : Kind) (before_glue : Bool) (penalty : Option ℤ) (made : Trial)
    → place < length xs → x ≡ get_or xs place x → kind ≡ kind_of (item_of x)
    → before_glue ≡ begins_with_glue (kinds_of (list_of (take (length xs - (place + 1)) (drop (place + 1) xs))))
    → penalty ≡ penalty_at after_solid kind before_glue → made ≡ with_place best goal place penalty sums
    → IsTried goal best place after_solid sums xs kind made
tried-at goal best place after_solid sums xs x kind before_glue penalty made h is kind_is glue_is penalty_is made_is = record {
  x = x;
  within = h;
  is = is;
  kind_is = kind_is;
  tried = made_is
      ∙ ap (λ p. with_place best goal place p sums) penalty_is
      ∙ ap (λ b. with_place best goal place (penalty_at after_solid kind b) sums) glue_is
      ∙ ap (λ ys. with_place best goal place (penalty_at after_solid kind (begins_with_glue (kinds_of (list_of ys)))) sums) (rest-is (place + 1) xs);
}

pub node-goes-on : {goal : ℤ} (most : ℤ) {best : Break} {place : ℕ} {after_solid : Bool} {sums : Sums} {xs : List Node} {kind : Kind} {made : Trial} {s : Sums}
    → IsTried goal best place after_solid sums xs kind made → made.stops ≡ false → with_item most sums kind ≡ Ok s
    → search_from goal most best place after_solid sums (kinds_from xs place) ≡ search_from goal most made.made (place + 1) (stays kind) s (kinds_from xs (place + 1))
node-goes-on {goal = goal} most {best = best} {place = place} {after_solid = after_solid} {sums = sums} {xs = xs} {kind = kind} {made = made} {s = s} t e is =
    ap (λ ks. search_from goal most best place after_solid sums ks) (here xs place t.x kind t.within t.is t.kind_is)
    ∙ goes-on goal most best place after_solid sums kind (kinds_from xs (place + 1)) s (ap (λ (m : Trial). m.stops) (sym t.tried) ∙ e) is
    ∙ ap (λ (m : Trial). search_from goal most m.made (suc place) (stays kind) s (kinds_from xs (place + 1))) (sym t.tried)
    ∙ ap (λ n. search_from goal most made.made n (stays kind) s (kinds_from xs (place + 1))) (sym (add-one place))

pub node-fails : {goal : ℤ} (most : ℤ) {best : Break} {place : ℕ} {after_solid : Bool} {sums : Sums} {xs : List Node} {kind : Kind} {made : Trial} {x : SplitError}
    → IsTried goal best place after_solid sums xs kind made → made.stops ≡ false → with_item most sums kind ≡ Err x
    → search_from goal most best place after_solid sums (kinds_from xs place) ≡ Err x
node-fails {goal = goal} most {best = best} {place = place} {after_solid = after_solid} {sums = sums} {xs = xs} {kind = kind} {made = made} {x = x} t e is =
    ap (λ ks. search_from goal most best place after_solid sums ks) (here xs place t.x kind t.within t.is t.kind_is)
    ∙ fails goal most best place after_solid sums kind (kinds_from xs (place + 1)) x (ap (λ (m : Trial). m.stops) (sym t.tried) ∙ e) is

pub node-is-over : {goal : ℤ} (most : ℤ) {best : Break} {place : ℕ} {after_solid : Bool} {sums : Sums} {xs : List Node} {kind : Kind} {made : Trial}
    → IsTried goal best place after_solid sums xs kind made → made.stops ≡ true
    → search_from goal most best place after_solid sums (kinds_from xs place) ≡ Ok made.made
node-is-over {goal = goal} most {best = best} {place = place} {after_solid = after_solid} {sums = sums} {xs = xs} {kind = kind} {made = made} t e =
    ap (λ ks. search_from goal most best place after_solid sums ks) (here xs place t.x kind t.within t.is t.kind_is)
    ∙ is-over goal most best place after_solid sums kind (kinds_from xs (place + 1)) (ap (λ (m : Trial). m.stops) (sym t.tried) ∙ e)
    ∙ ap (λ (m : Trial). Ok m.made) (sym t.tried)

-- at the end of the list
pub list-ends : (goal most : ℤ) (best : Break) (place : ℕ) (after_solid : Bool) (sums : Sums) (xs : List Node) → length xs ≤ place
    → search_from goal most best place after_solid sums (kinds_from xs place) ≡ Ok (with_place best goal place (Some (neg_ℤ (pos 10000))) sums).made
list-ends goal most best place after_solid sums xs h =
    ap (λ ys. search_from goal most best place after_solid sums (kinds_of (list_of ys))) (drop_all place xs h)
    ∙ ends goal most best place after_solid sums

pub from-start : (g goal m most : ℤ) (xs : List Node) → g ≡ goal → m ≡ most
    → search_from g m no_break 0 false no_sums (kinds_from xs 0) ≡ found (list_of xs) goal most
from-start g goal m most xs goal_is most_is =
    ap (λ z. search_from z m no_break 0 false no_sums (kinds_from xs 0)) goal_is
    ∙ ap (λ z. search_from goal z no_break 0 false no_sums (kinds_from xs 0)) most_is
