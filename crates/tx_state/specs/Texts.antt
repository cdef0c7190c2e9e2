-- What is taken next of the text that is being taken (TeX: The Program, sections 473 to 482).
use Rattle.std.specs.Prelude.{true, false}
use Rattle.tx_expand.specs.declared.types.Wanted.{Wanted}
use Rattle.tx_parts.specs.declared.parts.OpenText.{OpenText}
pub use Rattle.tx_parts.specs.Texts.{expands_body, is_global, expands_text, keeps_the, definition_text, absorbed_text, list_text, text_want, text_takes_the, with_given, defining_on, absorbing_on, listing_on, with_token, is_whole_at, has_ended_at, is_whole, text_answer, IsTextFed, IsFedSome, IsTextAnswered, is_within, with_ordinary, HasJoined, HasJoinedSome}

abbrev pub text_wanted : OpenText → Wanted
text_wanted text = record { want = text_want text; text = true; takes_the = text_takes_the text; names = false; peeks = false }
