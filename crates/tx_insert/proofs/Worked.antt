-- Lists of rules that Knuth's TeX (INITEX) splits so: what \vsplit makes and leaves is what \showbox showed; the size and the cost
-- of each break, which TeX doesn't show, were worked out by hand.
use Rattle.std.proofs.Common.{◌≡◌, ℕ, ◌*◌, List, [], ◌∷◌, refl}
use Rattle.std.specs.Prelude.{ℤ, pos, neg_ℤ, None, Some, Ok, Err}
use Rattle.tx_char.specs.declared.category.Cat.TheVariants.{Letter}
use Rattle.tx_char.specs.declared.tokens.Token.{Token}
use Rattle.tx_char.specs.declared.tokens.Token.TheVariants.{Character}
use Rattle.tx_num.specs.Glue.{GlueSpec, glue_of, zero_glue}
use Rattle.tx_node.specs.declared.plain.KernKind.TheVariants.{Explicit}
use Rattle.tx_node.specs.declared.plain.Plain.TheVariants.{Glue, Kern, Penalty}
use Rattle.tx_node.specs.declared.plain.Shared.TheVariants.{Rule, Mark}
use Rattle.tx_node.specs.Items.{Item, plain, shared}
use Rattle.tx_insert.specs.declared.error.SplitError.TheVariants.{SizeOutOfRange, EndlessShrink}
use Rattle.tx_insert.specs.Breaks.{break_of}
use Rattle.tx_insert.specs.Costs.{cost_of}
use Rattle.tx_insert.specs.Splits.{split_of}

-- so many points
abbrev pt : ℕ → ℤ
pt n = pos (n * 65536)

-- a rule of this height and depth, in points
abbrev bar : ℕ → ℕ → Item
bar height depth = shared (Rule (record { width = None; height = Some (pt height); depth = Some (pt depth) }))

abbrev rigid : ℕ → GlueSpec
rigid width = glue_of (pt width) (pos 0) 0 (pos 0) 0

abbrev skip : ℕ → Item
skip width = plain (Glue (rigid width))

abbrev kern : ℕ → Item
kern size = plain (Kern Explicit (pt size))

abbrev penalty : ℤ → Item
penalty n = plain (Penalty n)

abbrev letter : ℕ → List Token
letter code = Character code Letter ∷ []

abbrev mark : ℕ → Item
mark code = shared (Mark (letter code))

-- at a penalty between two rules, the first of which is as high as it should be
abbrev even : List Item
even = bar 5 0 ∷ penalty (pos 0) ∷ bar 5 0 ∷ []

pub even-break : break_of even (pt 5) (pos 0) ≡ Ok (record { place = 1; size = pt 5; cost = pos 0 })
even-break = refl

pub even-split : split_of even (pt 5) (pos 0) zero_glue
    ≡ Ok (record { top = bar 5 0 ∷ []; rest = plain (Glue zero_glue) ∷ bar 5 0 ∷ []; first = None; last = None })
even-split = refl

-- depth beyond 1pt goes into the height, so that two rules are too high; \splittopskip keeps its stretch, and is less by the height of the
-- second one
abbrev deep : List Item
deep = bar 5 3 ∷ penalty (pos 50) ∷ bar 3 3 ∷ penalty (pos 70) ∷ mark 97 ∷ bar 4 2 ∷ skip 3 ∷ mark 98 ∷ bar 2 0 ∷ []

pub deep-break : break_of deep (pt 10) (pt 1) ≡ Ok (record { place = 1; size = pt 8; cost = pos 100000 })
deep-break = refl

pub deep-split : split_of deep (pt 10) (pt 1) (glue_of (pt 10) (pt 1) 0 (pos 0) 0) ≡ Ok (record {
  top = bar 5 3 ∷ [];
  rest = plain (Glue (glue_of (pt 7) (pt 1) 0 (pos 0) 0)) ∷ bar 3 3 ∷ penalty (pos 70) ∷ mark 97 ∷ bar 4 2 ∷ skip 3 ∷ mark 98 ∷ bar 2 0 ∷ [];
  first = None;
  last = None;
})
deep-split = refl

-- of two breaks that cost nothing, at a penalty and at a kern before glue, the second is chosen; what vanishes at the top of the rest is the
-- kern, the glue, and another kern
abbrev fill : Item
fill = plain (Glue (glue_of (pos 0) (pt 1) 1 (pos 0) 0))

abbrev level : List Item
level = bar 5 0 ∷ fill ∷ bar 1 0 ∷ penalty (pos 0) ∷ kern 1 ∷ skip 1 ∷ kern 2 ∷ bar 1 0 ∷ bar 7 0 ∷ []

pub level-break : break_of level (pt 10) (pos 0) ≡ Ok (record { place = 4; size = pt 6; cost = pos 0 })
level-break = refl

pub level-split : split_of level (pt 10) (pos 0) zero_glue ≡ Ok (record {
  top = bar 5 0 ∷ fill ∷ bar 1 0 ∷ penalty (pos 0) ∷ [];
  rest = plain (Glue zero_glue) ∷ bar 1 0 ∷ bar 7 0 ∷ [];
  first = None;
  last = None;
})
level-split = refl

-- marks stay where what surrounds them vanishes; \splittopskip is never less than 0
abbrev shrinking : Item
shrinking = plain (Glue (glue_of (pt 1) (pos 0) 0 (pt 1) 0))

abbrev marked : List Item
marked = bar 8 1 ∷ kern 1 ∷ shrinking ∷ mark 120 ∷ kern 3 ∷ penalty (pos 7) ∷ mark 121 ∷ skip 2 ∷ bar 6 0 ∷ []

pub marked-break : break_of marked (pt 10) (pt 2) ≡ Ok (record { place = 1; size = pt 9; cost = pos 100000 })
marked-break = refl

pub marked-split : split_of marked (pt 10) (pt 2) (rigid 4) ≡ Ok (record {
  top = bar 8 1 ∷ [];
  rest = mark 120 ∷ mark 121 ∷ plain (Glue zero_glue) ∷ bar 6 0 ∷ [];
  first = None;
  last = None;
})
marked-split = refl

-- a greatest depth of -2pt makes the list higher by what each item is deeper; the first and the last mark before the break
abbrev raised : List Item
raised = mark 117 ∷ bar 3 1 ∷ penalty (pos 100) ∷ mark 118 ∷ bar 3 0 ∷ plain (Glue (glue_of (pt 1) (pt 5) 0 (pos 0) 0)) ∷ bar 3 0 ∷ []

pub raised-break : break_of raised (pt 10) (neg_ℤ (pt 2)) ≡ Ok (record { place = 5; size = pt 7; cost = pos 100000 })
raised-break = refl

pub raised-split : split_of raised (pt 10) (neg_ℤ (pt 2)) (rigid 4) ≡ Ok (record {
  top = mark 117 ∷ bar 3 1 ∷ penalty (pos 100) ∷ mark 118 ∷ bar 3 0 ∷ [];
  rest = skip 1 ∷ bar 3 0 ∷ [];
  first = Some (letter 117);
  last = Some (letter 118);
})
raised-split = refl

-- at the end, where nothing remains; and at the first break, at which the list is already too high
abbrev short : List Item
short = bar 3 1 ∷ skip 1 ∷ mark 113 ∷ bar 3 0 ∷ skip 1 ∷ []

pub short-break : break_of short (pt 20) (pos 0) ≡ Ok (record { place = 5; size = pt 9; cost = neg_ℤ (pos 10000) })
short-break = refl

pub short-split : split_of short (pt 20) (pos 0) (rigid 4) ≡ Ok (record { top = short; rest = []; first = Some (letter 113); last = Some (letter 113) })
short-split = refl

pub short-overfull : break_of short (pt 1) (pos 0) ≡ Ok (record { place = 1; size = pt 4; cost = pos 1073741823 })
short-overfull = refl

-- a forced break costs its penalty; behind it, infinite shrink is an error all the same, and a height out of range is none
abbrev endless : Item
endless = plain (Glue (glue_of (pos 0) (pos 0) 0 (pos 1) 1))

pub forced-break : break_of (bar 8 1 ∷ penalty (neg_ℤ (pos 10000)) ∷ bar 16000 0 ∷ bar 16000 0 ∷ []) (pt 10) (pt 2)
    ≡ Ok (record { place = 1; size = pt 9; cost = neg_ℤ (pos 10000) })
forced-break = refl

pub endless-break : break_of (bar 8 1 ∷ penalty (neg_ℤ (pos 10000)) ∷ endless ∷ []) (pt 10) (pt 2) ≡ Err EndlessShrink
endless-break = refl

pub too-high : break_of (bar 16000 0 ∷ bar 16000 0 ∷ []) (pt 10) (pt 2) ≡ Err SizeOutOfRange
too-high = refl

-- \insertpenalties are added to what a break of a page costs, unless it is forced or badness is 10000; of 10000 they forbid all
pub costs-on-a-page : cost_of (pos 50) (pos 1000) (Some 12) ∷ cost_of (pos 50) (pos 1000) (Some 10000) ∷ cost_of (neg_ℤ (pos 10000)) (pos 1000) (Some 12)
    ∷ cost_of (neg_ℤ (pos 10000)) (pos 10000) (Some 12) ∷ cost_of (pos 50) (pos 1000) None ∷ []
    ≡ pos 1062 ∷ pos 100000 ∷ neg_ℤ (pos 10000) ∷ pos 1073741823 ∷ pos 1073741823 ∷ []
costs-on-a-page = refl
