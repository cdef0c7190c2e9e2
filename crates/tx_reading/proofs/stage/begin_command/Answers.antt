use Rattle.std.proofs.Common.{ap}
use Rattle.tx_reading.proofs.Stages.{first-fresh, first-prefixed, first-future, first-leading, first-leading-box, first-shift, first-part, first-delimiting, first-thickness, first-accenting, first-loading, first-shaping, first-opening, first-aligning, first-preamble, first-row, first-entry, first-second-shift, first-displayed}
use Rattle.tx_reading.proofs.stage.begin_command.Goals as goal

pub returns-in-Fresh : goal.returns-in-Fresh
returns-in-Fresh c = first-fresh c.args.mode c.args.head.now c.args.token.now c.feed_fresh.new.scans c.feed_fresh.result c.in-Fresh.is c.feed_fresh.ensures

pub returns-in-Prefixed : goal.returns-in-Prefixed
returns-in-Prefixed c = first-prefixed c.args.mode c.args.head.now _ c.args.token.now c.feed_prefixed.new.scans c.feed_prefixed.result c.in-Prefixed.is c.feed_prefixed.ensures

pub returns-in-Leading : goal.returns-in-Leading
returns-in-Leading c = first-leading c.args.mode c.args.head.now _ _ c.args.token.now c.feed_leading.new.scans c.feed_leading.result c.in-Leading.is c.feed_leading.ensures

pub returns-in-LeadingBox : goal.returns-in-LeadingBox
returns-in-LeadingBox c = first-leading-box c.args.mode c.args.head.now _ _ c.args.token.now c.feed_leading-in-LeadingBox.new.scans c.feed_leading-in-LeadingBox.result c.in-LeadingBox.is c.feed_leading-in-LeadingBox.ensures

pub returns-in-Shift : goal.returns-in-Shift
returns-in-Shift c = first-shift c.args.mode c.args.head.now c.args.token.now _ c.feed_shift.result c.in-Shift.is c.feed_shift.ensures

pub returns-in-Part : goal.returns-in-Part
returns-in-Part c = first-part c.args.mode c.args.head.now _ c.args.token.now c.feed_atom.new.scans c.feed_atom.result c.in-Part.is c.feed_atom.ensures

pub returns-in-Delimiting : goal.returns-in-Delimiting
returns-in-Delimiting c = first-delimiting c.args.mode c.args.head.now _ c.args.token.now c.feed_delimiter.new.scans c.feed_delimiter.result c.in-Delimiting.is c.feed_delimiter.ensures

pub returns-in-Thickness : goal.returns-in-Thickness
returns-in-Thickness c = first-thickness c.args.mode c.args.head.now _ _ c.args.token.now c.feed_thickness.new.scans c.feed_thickness.result c.in-Thickness.is c.feed_thickness.ensures

pub returns-in-Accenting : goal.returns-in-Accenting
returns-in-Accenting c = first-accenting c.args.mode c.args.head.now _ c.args.token.now c.feed_accent.new.scans c.feed_accent.result c.in-Accenting.is c.feed_accent.ensures

pub returns-in-Future : goal.returns-in-Future
returns-in-Future c = rw c.on.ensures.answer (first-future c.args.mode c.args.head.now _ _ c.args.token.now c.on.new.scans c.in-Future.is (ap (λ scans. scans.stage) c.on.ensures.scans))

pub returns-in-Loading : goal.returns-in-Loading
returns-in-Loading c = first-loading c.args.mode c.args.head.now _ c.in-Loading.name c.args.token.now c.feed_loading.new.scans c.feed_loading.result c.in-Loading.is c.feed_loading.ensures

pub returns-in-Shaping : goal.returns-in-Shaping
returns-in-Shaping c = first-shaping c.args.mode c.args.head.now _ _ _ c.args.token.now c.feed_shape.new.scans c.feed_shape.result c.in-Shaping.is c.feed_shape.ensures

pub returns-in-Opening : goal.returns-in-Opening
returns-in-Opening c = first-opening c.args.mode c.args.head.now _ c.args.token.now c.feed_open.new.scans c.feed_open.result c.in-Opening.is c.feed_open.ensures

pub returns-in-Row : goal.returns-in-Row
returns-in-Row c = first-row c.args.mode c.args.head.now c.row_start.result c.args.token.now c.feed_row.new.scans c.feed_row.result c.in-Row.is c.row_start.ensures c.feed_row.ensures

pub returns-in-Entry : goal.returns-in-Entry
returns-in-Entry c = first-entry c.args.mode c.args.head.now c.entry_start.result c.args.token.now c.feed_row-in-Entry.new.scans c.feed_row-in-Entry.result c.in-Entry.is c.entry_start.ensures c.feed_row-in-Entry.ensures

pub returns-in-Aligning : goal.returns-in-Aligning
returns-in-Aligning c = first-aligning c.args.mode c.args.head.now _ c.args.token.now c.feed_align.new.scans c.feed_align.result c.in-Aligning.is c.feed_align.ensures

pub returns-in-Preamble : goal.returns-in-Preamble
returns-in-Preamble c = first-preamble c.args.mode c.args.head.now c.args.token.now c.feed_preamble.new.scans c.feed_preamble.result c.in-Preamble.is c.feed_preamble.ensures

pub returns-in-SecondShift : goal.returns-in-SecondShift
returns-in-SecondShift c = first-second-shift c.args.mode c.args.head.now c.args.token.now _ c.feed_second_shift.result c.in-SecondShift.is c.feed_second_shift.ensures

pub returns-in-Displayed : goal.returns-in-Displayed
returns-in-Displayed c = first-displayed c.args.mode c.args.head.now c.args.token.now _ c.feed_behind_display.result c.in-Displayed.is c.feed_behind_display.ensures
