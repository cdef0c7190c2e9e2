-- TeX's state is plain data: codes by which two states are told apart.
use Rattle.std.specs.Prelude.{◌≡◌, ℕ, ℤ, Bool, List, Option, ◌⊎◌, refl}
use Rattle.std.proofs.Common.{inl, inr}
use Rattle.std.specs.Coded.{Coded, code_by, coded×, coded⊎, coded_ℕ, coded_ℤ, coded_bool, coded_list, coded_option}
use Rattle.tx_char.specs.declared.tokens.Token.{Token}
use Rattle.tx_char.specs.contracts.tokens.Token as token
use Rattle.tx_seen.specs.declared.item.Item.{Item}
use Rattle.tx_seen.specs.contracts.item.Item as item
use Rattle.tx_pending.specs.declared.next.ColumnPart.{ColumnPart}
use Rattle.tx_pending.specs.contracts.next.ColumnPart as column_part
use Rattle.tx_pending.specs.Elements.{Element, Given, Held, Mark, PartEnd, Unread, Input}
use Rattle.tx_eqtb.specs.declared.eqtb.Eqtb.{Eqtb}
use Rattle.tx_eqtb.specs.contracts.eqtb.Eqtb as eqtb
use Rattle.tx_lex.specs.declared.types.ReadState.{ReadState}
use Rattle.tx_lex.specs.contracts.types.ReadState as read_state
use Rattle.tx_event.specs.declared.types.AskKind.{AskKind}
use Rattle.tx_event.specs.contracts.types.AskKind as ask_kind
use Rattle.tx_prim.specs.declared.modes.Mode.{Mode}
use Rattle.tx_prim.specs.contracts.modes.Mode as mode
use Rattle.tx_box.specs.declared.parts.Lists.{Lists}
use Rattle.tx_box.specs.contracts.parts.Lists as lists
use Rattle.tx_tfm.specs.declared.state.FontState.{FontState}
use Rattle.tx_tfm.specs.contracts.state.FontState as font_state
use Rattle.tx_hyphenate.specs.declared.known.Hyphenation.{Hyphenation}
use Rattle.tx_hyphenate.specs.contracts.known.Hyphenation as hyphenation
use Rattle.tx_word.specs.declared.accent.Accent.{Accent}
use Rattle.tx_word.specs.contracts.accent.Accent as accent
use Rattle.tx_word.specs.declared.open.OpenWord.{OpenWord}
use Rattle.tx_word.specs.contracts.open.OpenWord as open_word
use Rattle.tx_word.specs.Collecting.{Collecting}
use Rattle.tx_parts.specs.declared.parts.Due.{Due}
use Rattle.tx_parts.specs.contracts.parts.Due as due
use Rattle.tx_cond.specs.declared.types.Conditional.{Conditional}
use Rattle.tx_cond.specs.contracts.types.Conditional as conditional
use Rattle.tx_expand.specs.declared.begun.Begun.{Begun}
use Rattle.tx_expand.specs.contracts.begun.Begun as begun
use Rattle.tx_expand.specs.Reader.{Reader}
use Rattle.tx_parts.specs.declared.parts.KeptToken.{KeptToken}
use Rattle.tx_parts.specs.contracts.parts.KeptToken as kept_token
use Rattle.tx_parts.specs.declared.parts.OpenText.{OpenText}
use Rattle.tx_parts.specs.contracts.parts.OpenText as open_text
use Rattle.tx_command.specs.declared.types.Head.{Head}
use Rattle.tx_command.specs.contracts.types.Head as head
use Rattle.tx_tabular.specs.declared.alignment.Alignment.{Alignment}
use Rattle.tx_tabular.specs.contracts.alignment.Alignment as alignment
use Rattle.tx_state.specs.State.{TexState, Meaning, Runs, Waits, Stops}

-- elements of the pending input
abbrev element_parts : Element → Token ⊎ (Token ⊎ (ℕ ⊎ (ColumnPart ⊎ (List ℕ × ReadState))))
element_parts (Given t) = inl t
element_parts (Held t) = inr (inl t)
element_parts Mark = inr (inr (inl 0))
element_parts (PartEnd part) = inr (inr (inr (inl part)))
element_parts (Unread rest state) = inr (inr (inr (inr (rest, state))))

abbrev element_of : Token ⊎ (Token ⊎ (ℕ ⊎ (ColumnPart ⊎ (List ℕ × ReadState)))) → Element
element_of (inl t) = Given t
element_of (inr (inl t)) = Held t
element_of (inr (inr (inl n))) = Mark
element_of (inr (inr (inr (inl part)))) = PartEnd part
element_of (inr (inr (inr (inr p)))) = Unread p.0 p.1

pub element_back : (x : Element) → element_of (element_parts x) ≡ x
element_back (Given t) = refl
element_back (Held t) = refl
element_back Mark = refl
element_back (PartEnd part) = refl
element_back (Unread rest state) = refl

abbrev element_code : Coded Element
element_code = code_by (Token ⊎ (Token ⊎ (ℕ ⊎ (ColumnPart ⊎ (List ℕ × ReadState))))) (coded⊎ token.the_row.coded (coded⊎ token.the_row.coded (coded⊎ coded_ℕ (coded⊎ column_part.the_row.coded (coded× (coded_list coded_ℕ) read_state.the_row.coded))))) element_parts element_of element_back

abbrev input_code : Coded Input
input_code = code_by (List Element × (Bool × ℤ)) (coded× (coded_list element_code) (coded× coded_bool coded_ℤ)) (λ i. (i.elements, (i.closing, i.level))) (λ p. record { elements = p.0; closing = p.1.0; level = p.1.1 }) (λ _. refl)

abbrev reader_code : Coded Reader
reader_code = code_by
    (Input × (List Begun × (List Conditional × List ℕ)))
    (coded× input_code (coded× (coded_list begun.the_row.coded) (coded× (coded_list conditional.the_row.coded) (coded_list coded_ℕ))))
    (λ r. (r.input, (r.begun, (r.conditionals, r.job))))
    (λ p. record { input = p.0; begun = p.1.0; conditionals = p.1.1.0; job = p.1.1.1 })
    (λ _. refl)

abbrev words_code : Coded Collecting
words_code = code_by
    (List FontState × (Option OpenWord × Option Accent))
    (coded× (coded_list font_state.the_row.coded) (coded× (coded_option open_word.the_row.coded) (coded_option accent.the_row.coded)))
    (λ w. (w.fonts, (w.word, w.accent)))
    (λ p. record { fonts = p.0; word = p.1.0; accent = p.1.1 })
    (λ _. refl)

abbrev state_code : Coded TexState
state_code = code_by
    (List Due × (ℕ × (Reader × (Option OpenText × (Mode × (Head × (List Item × (Lists × (List Alignment × (Collecting × (Hyphenation × (Eqtb × (List KeptToken × (Option Token × (Option ℤ × List ℕ)))))))))))))))
    (coded× (coded_list due.the_row.coded) (coded× coded_ℕ (coded× reader_code (coded× (coded_option open_text.the_row.coded) (coded× mode.the_row.coded (coded× head.the_row.coded (coded× (coded_list item.the_row.coded) (coded× lists.the_row.coded (coded× (coded_list alignment.the_row.coded) (coded× words_code (coded× hyphenation.the_row.coded (coded× eqtb.the_row.coded (coded× (coded_list kept_token.the_row.coded) (coded× (coded_option token.the_row.coded) (coded× (coded_option coded_ℤ) (coded_list coded_ℕ))))))))))))))))
    (λ s. (s.due, (s.files, (s.reader, (s.text, (s.mode, (s.head, (s.taken, (s.lists, (s.alignments, (s.words, (s.hyphenation, (s.table, (s.after_groups, (s.after_assignment, (s.magnification, s.defined))))))))))))))))
    (λ p. record {
      due = p.0;
      files = p.1.0;
      reader = p.1.1.0;
      text = p.1.1.1.0;
      mode = p.1.1.1.1.0;
      head = p.1.1.1.1.1.0;
      taken = p.1.1.1.1.1.1.0;
      lists = p.1.1.1.1.1.1.1.0;
      alignments = p.1.1.1.1.1.1.1.1.0;
      words = p.1.1.1.1.1.1.1.1.1.0;
      hyphenation = p.1.1.1.1.1.1.1.1.1.1.0;
      table = p.1.1.1.1.1.1.1.1.1.1.1.0;
      after_groups = p.1.1.1.1.1.1.1.1.1.1.1.1.0;
      after_assignment = p.1.1.1.1.1.1.1.1.1.1.1.1.1.0;
      magnification = p.1.1.1.1.1.1.1.1.1.1.1.1.1.1.0;
      defined = p.1.1.1.1.1.1.1.1.1.1.1.1.1.1.1;
    })
    (λ _. refl)

abbrev split : Meaning → TexState ⊎ ((AskKind × TexState) ⊎ ℕ)
split (Runs s) = inl s
split (Waits kind s) = inr (inl (kind, s))
split Stops = inr (inr 0)

abbrev join : TexState ⊎ ((AskKind × TexState) ⊎ ℕ) → Meaning
join (inl s) = Runs s
join (inr (inl p)) = Waits p.0 p.1
join (inr (inr n)) = Stops

pub join-split : (m : Meaning) → join (split m) ≡ m
join-split (Runs s) = refl
join-split (Waits kind s) = refl
join-split Stops = refl

abbrev pub meaning_code : Coded Meaning
meaning_code = code_by (TexState ⊎ ((AskKind × TexState) ⊎ ℕ)) (coded⊎ state_code (coded⊎ (coded× ask_kind.the_row.coded state_code) coded_ℕ)) split join join-split
