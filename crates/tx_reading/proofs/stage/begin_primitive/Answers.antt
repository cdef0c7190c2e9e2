use Rattle.std.proofs.Common.{false, refl, ap, ◌∙◌}
use Rattle.tx_scan.specs.DimensionRests.{begun_size}
use Rattle.tx_seen.specs.declared.fed.Want.TheVariants.{Raw}
use Rattle.tx_command.specs.declared.types.SizeUse.TheVariants.{Item}
use Rattle.tx_reading.proofs.Stages.{font-begun, future-begun, kept-begun, leaders-begun, macro-begun, name-begun, size-begun, rule-begun, spaces-begun}
use Rattle.tx_reading.proofs.stage.begin_primitive.Goals as goal

pub returns-in-Let : goal.returns-in-Let
returns-in-Let c = rw c.in-Let.is c.begin_assignment.ensures

pub returns-in-Arithmetic : goal.returns-in-Arithmetic
returns-in-Arithmetic c = rw c.in-Arithmetic.is c.begin_assignment-in-Arithmetic.ensures

pub returns-in-Numbered : goal.returns-in-Numbered
returns-in-Numbered c = rw c.in-Numbered.is c.begin_variable.ensures

pub returns-in-Integer : goal.returns-in-Integer
returns-in-Integer c = rw c.in-Integer.is c.begin_place.ensures

pub returns-in-Dimension : goal.returns-in-Dimension
returns-in-Dimension c = rw c.in-Dimension.is c.begin_place-in-Dimension.ensures

pub returns-in-Glue : goal.returns-in-Glue
returns-in-Glue c = rw c.in-Glue.is c.begin_place-in-Glue.ensures

pub returns-in-HorizontalGlue : goal.returns-in-HorizontalGlue
returns-in-HorizontalGlue c = rw c.in-HorizontalGlue.is c.begin_shape-in-HorizontalGlue.ensures

pub returns-in-VerticalGlue : goal.returns-in-VerticalGlue
returns-in-VerticalGlue c = rw c.in-VerticalGlue.is c.begin_shape-in-VerticalGlue.ensures

pub returns-in-Leaders : goal.returns-in-Leaders
returns-in-Leaders c = rw (c.in-Leaders.is, c.on-in-Leaders.ensures.answer) (leaders-begun c.in-Leaders.kind c.on-in-Leaders.new.scans (ap (λ scans. scans.stage) c.on-in-Leaders.ensures.scans))

pub returns-in-Tokens : goal.returns-in-Tokens
returns-in-Tokens c = rw c.in-Tokens.is c.begin_place-in-Tokens.ensures

pub returns-in-Shorthand : goal.returns-in-Shorthand
returns-in-Shorthand c = rw (c.in-Shorthand.is, c.on.ensures.answer) (name-begun c.in-Shorthand.kind c.on.new.scans Raw refl (ap (λ scans. scans.stage) c.on.ensures.scans))

pub returns-in-Sized : goal.returns-in-Sized
returns-in-Sized c =
    rw (c.in-Sized.is, c.on-in-Sized.ensures.answer)
    (size-begun (Item c.in-Sized.kind) c.on-in-Sized.new.scans (ap (λ scans. scans.stage) c.on-in-Sized.ensures.scans) (ap (λ scans. scans.size) c.on-in-Sized.ensures.scans ∙ (c.restart.ensures.scan ∙ ap (λ mu. begun_size (record { mu = mu; infinite = false })) c.is_in_mu.ensures)))

pub returns-in-Rule : goal.returns-in-Rule
returns-in-Rule c =
    rw (c.in-Rule.is, c.on-in-Rule.ensures.answer)
    (rule-begun c.in-Rule.kind c.on-in-Rule.new.scans (ap (λ scans. scans.stage) c.on-in-Rule.ensures.scans)
    (ap (λ scans. scans.rule.rule) c.on-in-Rule.ensures.scans ∙ c.begin.ensures.rule) (ap (λ scans. scans.rule.part) c.on-in-Rule.ensures.scans ∙ c.begin.ensures.part))

pub returns-in-IgnoreSpaces : goal.returns-in-IgnoreSpaces
returns-in-IgnoreSpaces c = rw (c.in-IgnoreSpaces.is, c.on-in-IgnoreSpaces.ensures.answer) (spaces-begun c.on-in-IgnoreSpaces.new.scans (ap (λ scans. scans.stage) c.on-in-IgnoreSpaces.ensures.scans))

pub returns-in-Definition : goal.returns-in-Definition
returns-in-Definition c = rw (c.in-Definition.is, c.on-in-Definition.ensures.answer) (macro-begun c.in-Definition.kind c.on-in-Definition.new.scans (ap (λ scans. scans.stage) c.on-in-Definition.ensures.scans))

pub returns-in-After : goal.returns-in-After
returns-in-After c = rw (c.in-After.is, c.on-in-After.ensures.answer) (kept-begun c.in-After.kind c.on-in-After.new.scans (ap (λ scans. scans.stage) c.on-in-After.ensures.scans))

pub returns-in-FutureLet : goal.returns-in-FutureLet
returns-in-FutureLet c = rw (c.in-FutureLet.is, c.on-in-FutureLet.ensures.answer) (future-begun c.on-in-FutureLet.new.scans (ap (λ scans. scans.stage) c.on-in-FutureLet.ensures.scans))

pub returns-in-Box : goal.returns-in-Box
returns-in-Box c = rw c.in-Box.is c.begin_shape.ensures

pub returns-in-BoxFrom : goal.returns-in-BoxFrom
returns-in-BoxFrom c = rw c.in-BoxFrom.is c.begin_shape-in-BoxFrom.ensures

pub returns-in-Shipout : goal.returns-in-Shipout
returns-in-Shipout c = rw c.in-Shipout.is c.begin_shape-in-Shipout.ensures

pub returns-in-SetBox : goal.returns-in-SetBox
returns-in-SetBox c = rw c.in-SetBox.is c.begin_shape-in-SetBox.ensures

pub returns-in-Shift : goal.returns-in-Shift
returns-in-Shift c = rw c.in-Shift.is c.begin_shape-in-Shift.ensures

pub returns-in-Unbox : goal.returns-in-Unbox
returns-in-Unbox c = rw c.in-Unbox.is c.begin_shape-in-Unbox.ensures

pub returns-in-Penalty : goal.returns-in-Penalty
returns-in-Penalty c = rw c.in-Penalty.is c.begin_shape-in-Penalty.ensures

pub returns-in-PrevDepth : goal.returns-in-PrevDepth
returns-in-PrevDepth c = rw c.in-PrevDepth.is c.begin_shape-in-PrevDepth.ensures

pub returns-in-FontDimen : goal.returns-in-FontDimen
returns-in-FontDimen c = rw c.in-FontDimen.is c.begin_shape-in-FontDimen.ensures

pub returns-in-FontInteger : goal.returns-in-FontInteger
returns-in-FontInteger c = rw c.in-FontInteger.is c.begin_shape-in-FontInteger.ensures

pub returns-in-Char : goal.returns-in-Char
returns-in-Char c = rw c.in-Char.is c.begin_shape-in-Char.ensures

pub returns-in-SpaceFactor : goal.returns-in-SpaceFactor
returns-in-SpaceFactor c = rw c.in-SpaceFactor.is c.begin_shape-in-SpaceFactor.ensures

pub returns-in-PrevGraf : goal.returns-in-PrevGraf
returns-in-PrevGraf c = rw c.in-PrevGraf.is c.begin_shape-in-PrevGraf.ensures

pub returns-in-DeadCycles : goal.returns-in-DeadCycles
returns-in-DeadCycles c = rw c.in-DeadCycles.is c.begin_shape-in-DeadCycles.ensures

pub returns-in-MathChar : goal.returns-in-MathChar
returns-in-MathChar c = rw c.in-MathChar.is c.begin_shape-in-MathChar.ensures

pub returns-in-Coded : goal.returns-in-Coded
returns-in-Coded c = rw c.in-Coded.is c.begin_shape-in-Coded.ensures

pub returns-in-Accent : goal.returns-in-Accent
returns-in-Accent c = rw c.in-Accent.is c.begin_shape-in-Accent.ensures

pub returns-in-Center : goal.returns-in-Center
returns-in-Center c = rw c.in-Center.is c.begin_shape-in-Center.ensures

pub returns-in-MathGlue : goal.returns-in-MathGlue
returns-in-MathGlue c = rw c.in-MathGlue.is c.begin_shape-in-MathGlue.ensures

pub returns-in-FamilyFont : goal.returns-in-FamilyFont
returns-in-FamilyFont c = rw c.in-FamilyFont.is c.begin_shape-in-FamilyFont.ensures

pub returns-in-Insert : goal.returns-in-Insert
returns-in-Insert c = rw c.in-Insert.is c.begin_shape-in-Insert.ensures

pub returns-in-Page : goal.returns-in-Page
returns-in-Page c = rw c.in-Page.is c.begin_shape-in-Page.ensures

pub returns-in-ParShape : goal.returns-in-ParShape
returns-in-ParShape c = rw c.in-ParShape.is c.begin_shape-in-ParShape.ensures

pub returns-in-Adjust : goal.returns-in-Adjust
returns-in-Adjust c = rw c.in-Adjust.is c.begin_shape-in-Adjust.ensures

pub returns-in-Discretionary : goal.returns-in-Discretionary
returns-in-Discretionary c = rw c.in-Discretionary.is c.begin_shape-in-Discretionary.ensures

pub returns-in-LoadFont : goal.returns-in-LoadFont
returns-in-LoadFont c = rw (c.in-LoadFont.is, c.on-in-LoadFont.ensures.answer) (font-begun c.on-in-LoadFont.new.scans (ap (λ scans. scans.stage) c.on-in-LoadFont.ensures.scans))
