-- How a run begins.
use Rattle.std.specs.Prelude.{ℕ, false, List, [], ◌∷◌, None}
use Rattle.tx_box.specs.Beginnings.{first_lists}
use Rattle.tx_command.specs.declared.types.Head.TheVariants.{Fresh}
use Rattle.tx_eqtb.specs.Initex.{initial_table}
use Rattle.tx_expand.specs.Expanding.{reader as reader_with}
use Rattle.tx_machine.specs.declared.types.Date.{Date}
use Rattle.tx_pending.specs.Elements.{no_input}
use Rattle.tx_prim.specs.declared.modes.Mode.TheVariants.{Vertical}
use Rattle.tx_parts.specs.declared.parts.Due.TheVariants.{OpenMain}
use Rattle.tx_state.specs.State.{TexState}
use Rattle.tx_tfm.specs.Fonts.{no_fonts}
use Rattle.tx_turn.specs.Pages.{moment_of}

-- the first state of a run: the main file is to be asked for, and nothing is to be read yet
abbrev pub first_state : Date → List ℕ → TexState
first_state date main = record {
  due = OpenMain main ∷ [];
  files = 0;
  reader = reader_with [] no_input [] main;
  text = None;
  mode = Vertical;
  head = Fresh;
  taken = [];
  lists = first_lists;
  alignments = [];
  words = record { fonts = no_fonts; word = None; accent = None };
  hyphenation = record { hyphens = record { patterns = []; exceptions = [] }; used = false };
  table = record { table = initial_table (moment_of date); groups = [] };
  after_groups = [];
  after_assignment = None;
  magnification = None;
  defined = [];
}
