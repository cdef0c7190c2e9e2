-- TeX as a machine: its turns, with what its commands do.
use Rattle.tx_machine.specs.Machine.{Formatter}
use Rattle.tx_aligning.specs.Entries.{ending as ending_entry, over}
use Rattle.tx_boxing.specs.Shipped.{works_boxes}
use Rattle.tx_lettering.specs.Fonts.{loading}
use Rattle.tx_lettering.specs.Texts.{ending_text, relaxing}
use Rattle.tx_lettering.specs.Words.{word_ended}
use Rattle.tx_state.specs.State.{Meaning}
use Rattle.tx_turn.specs.Effects.{Effects}
use Rattle.tx_turn.specs.Turns.{tex_with}
use Rattle.tx_main.specs.Effects.{effect}

-- what its stomach makes of the state
abbrev pub tex_effects : Effects
tex_effects = record {
  effect = effect;
  ending_text = λ s. ending_text s s.text;
  word_ended = word_ended;
  relaxing = relaxing;
  ending_entry = ending_entry;
  over = over;
  loading = λ s request. loading s request request.file;
  works_boxes = works_boxes;
}

-- TeX as a machine
unfoldable pub tex : Formatter Meaning
tex = tex_with tex_effects
