-- Glue: a width that can stretch and shrink (TeX: The Program, sections 150 and 1239).
use Rattle.std.specs.Prelude.{ℕ, ◌<◌, ◌≤◌, ◌^◌, ◌==◌, ℤ, pos, ◌+ℤ◌, neg_ℤ, unsigned_abs, nat_lt, if◌then◌else◌}

-- what glue is: its natural width, and its stretch and shrink, each with an order, 0 to 3, of infinity
pub record GlueSpec : Type 0 where
  pub width : ℤ
  pub stretch : ℤ
  pub stretch_order : ℕ
  pub shrink : ℤ
  pub shrink_order : ℕ

abbrev pub glue_of : ℤ → ℤ → ℕ → ℤ → ℕ → GlueSpec
glue_of w s o t p = record { width = w; stretch = s; stretch_order = o; shrink = t; shrink_order = p }

-- glue that is no space at all
abbrev pub zero_glue : GlueSpec
zero_glue = glue_of (pos 0) (pos 0) 0 (pos 0) 0

-- a size lies within the range of a dimension
abbrev pub IsDimension : ℤ → Type 0
IsDimension z = unsigned_abs z < 2 ^ 30

-- the sizes are dimensions, and the orders are those of normal, fil, fill and filll
pub record IsGlue (g : GlueSpec) : Type 0 where
  pub width_in : IsDimension g.width
  pub stretch_in : IsDimension g.stretch
  pub stretch_order_in : g.stretch_order ≤ 3
  pub shrink_in : IsDimension g.shrink
  pub shrink_order_in : g.shrink_order ≤ 3

-- the order of a size of stretch or shrink; where there is nothing of it, normal
abbrev pub order_of : ℤ × ℕ → ℕ
order_of e = if unsigned_abs e.0 == 0 then 0 else e.1

-- two stretches, or two shrinks, as one: of one order they add, of two the higher is kept
abbrev pub joined_elastic : ℤ × ℕ → ℤ × ℕ → ℤ × ℕ
joined_elastic a b =
    if order_of a == order_of b then (a.0 +ℤ b.0, order_of a)
    else if nat_lt (order_of a) (order_of b) then b
    else a

-- the glue that is as wide, and can stretch and shrink, as two together
abbrev pub glue_sum : GlueSpec → GlueSpec → GlueSpec
glue_sum g h =
    let stretch : ℤ × ℕ = joined_elastic (g.stretch, g.stretch_order) (h.stretch, h.stretch_order) in
    let shrink : ℤ × ℕ = joined_elastic (g.shrink, g.shrink_order) (h.shrink, h.shrink_order) in
    glue_of (g.width +ℤ h.width) stretch.0 stretch.1 shrink.0 shrink.1

-- glue with each of its sizes negated
abbrev pub glue_negated : GlueSpec → GlueSpec
glue_negated g =
    glue_of (neg_ℤ g.width) (neg_ℤ g.stretch) g.stretch_order (neg_ℤ g.shrink) g.shrink_order
