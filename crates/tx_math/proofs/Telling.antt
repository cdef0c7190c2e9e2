-- What comes of one part after the other, joined to what came before.
use Rattle.std.proofs.Common.{◌≡◌, ◌≤◌, ◌<◌, ◌+◌, ◌∙◌, ℕ, Bool, List, [], ◌∷◌, ◌++◌, length, drop, get_or, Result, Ok, Err, refl, ap, sym, append_assoc, append-nil}
use Rattle.std.proofs.lemmas.List.{at_drop_all}
use Rattle.tx_node.specs.Items.{Item}
use Rattle.tx_math.specs.declared.entry.Entry.{Entry as EntryFields}
use Rattle.tx_math.specs.declared.error.MathError.{MathError}
use Rattle.tx_math.specs.declared.piece.Fences.{Fences}
use Rattle.tx_math.specs.declared.piece.Spaces.{Spaces}
use Rattle.tx_math.specs.Boxes.{with_more}
use Rattle.tx_math.specs.Classes.{kind_before}
use Rattle.tx_math.specs.Converting.{entries_in, entry_of}
use Rattle.tx_math.specs.Entries.{Entry}
use Rattle.tx_math.specs.Formula.{Inward, piece_as, pieces_of}
use Rattle.tx_math.specs.Outcomes.{and_then, given, passed}
use Rattle.tx_math.specs.Parameters.{Math}
use Rattle.tx_math.proofs.First.{front}
use Rattle.tx_math.specs.Spacing.{Piece, piece_items, spaced, spaces_after}

-- pieces, and those that come of the rest
abbrev pub behind_pieces : List Piece → Result (List Piece × List ℕ) MathError → Result (List Piece × List ℕ) MathError
behind_pieces pieces rest = passed rest (λ made. Ok (pieces ++ made.0, made.1))

pub pieces_nothing : (rest : Result (List Piece × List ℕ) MathError) → behind_pieces [] rest ≡ rest
pieces_nothing (Err e) = refl
pieces_nothing (Ok made) = refl

regrouped : (pieces : List Piece) (piece : Piece) (rest : Result (List Piece × List ℕ) MathError)
    → behind_pieces pieces (passed rest (λ made. Ok (piece ∷ made.0, made.1))) ≡ behind_pieces (pieces ++ piece ∷ []) rest
regrouped pieces piece (Err e) = refl
regrouped pieces piece (Ok made) = ap (λ (list : List Piece). Ok (list, made.1)) (sym (append_assoc pieces (piece ∷ []) made.0))

one_more : (inward : Inward) (m : Math) (e : Entry) (rest : List Entry) (pieces : List Piece) (piece : Piece) (told told' : List ℕ)
    → piece_as inward m (kind_before e rest) e told ≡ Ok (piece, told')
    → behind_pieces pieces (pieces_of inward m (e ∷ rest) told) ≡ behind_pieces (pieces ++ piece ∷ []) (pieces_of inward m rest told')
one_more inward m e rest pieces piece told told' made =
    ap (λ (first : Result (Piece × List ℕ) MathError). behind_pieces pieces (passed first (λ p. and_then (pieces_of inward m rest) (λ more. given (p.0 ∷ more)) p.1))) made
    ∙ regrouped pieces piece (pieces_of inward m rest told')

one_stops : (inward : Inward) (m : Math) (e : Entry) (rest : List Entry) (pieces : List Piece) (told : List ℕ) (error : MathError)
    → piece_as inward m (kind_before e rest) e told ≡ Err error → behind_pieces pieces (pieces_of inward m (e ∷ rest) told) ≡ Err error
one_stops inward m e rest pieces told error made =
    ap (λ (first : Result (Piece × List ℕ) MathError). behind_pieces pieces (passed first (λ p. and_then (pieces_of inward m rest) (λ more. given (p.0 ∷ more)) p.1))) made

-- one piece more; an error; and no entry more
pub pieces_more : (inward : Inward) (m : Math) (entries : List EntryFields) (at : ℕ) (pieces : List Piece) (told told' : List ℕ) (e : EntryFields) (piece : Piece)
    → at < length entries → e ≡ get_or entries at e
    → piece_as inward m (kind_before (entry_of e) (entries_in (drop (at + 1) entries))) (entry_of e) told ≡ Ok (piece, told')
    → behind_pieces pieces (pieces_of inward m (entries_in (drop at entries)) told)
    ≡ behind_pieces (pieces ++ piece ∷ []) (pieces_of inward m (entries_in (drop (at + 1) entries)) told')
pieces_more inward m entries at pieces told told' e piece below is made =
    ap (λ list. behind_pieces pieces (pieces_of inward m (entries_in list) told)) (front entries at e below is)
    ∙ one_more inward m (entry_of e) (entries_in (drop (at + 1) entries)) pieces piece told told' made

pub pieces_stopped : (inward : Inward) (m : Math) (entries : List EntryFields) (at : ℕ) (pieces : List Piece) (told : List ℕ) (e : EntryFields) (error : MathError)
    → at < length entries → e ≡ get_or entries at e
    → piece_as inward m (kind_before (entry_of e) (entries_in (drop (at + 1) entries))) (entry_of e) told ≡ Err error
    → behind_pieces pieces (pieces_of inward m (entries_in (drop at entries)) told) ≡ Err error
pieces_stopped inward m entries at pieces told e error below is made =
    ap (λ list. behind_pieces pieces (pieces_of inward m (entries_in list) told)) (front entries at e below is)
    ∙ one_stops inward m (entry_of e) (entries_in (drop (at + 1) entries)) pieces told error made

pub pieces_over : (inward : Inward) (m : Math) (entries : List EntryFields) (at : ℕ) (pieces : List Piece) (told : List ℕ) → length entries ≤ at
    → behind_pieces pieces (pieces_of inward m (entries_in (drop at entries)) told) ≡ Ok (pieces, told)
pieces_over inward m entries at pieces told over =
    at_drop_all (λ (list : List EntryFields). behind_pieces pieces (pieces_of inward m (entries_in list) told)) entries at over
    ∙ ap (λ (list : List Piece). Ok (list, told)) (append-nil pieces)

-- the same of the list that pieces become
pub spaced_nothing : (more : Result (List Item) MathError) → with_more [] more ≡ more
spaced_nothing (Err e) = refl
spaced_nothing (Ok items) = refl

joined : (list list' : List Item) (first more : Result (List Item) MathError) → with_more list first ≡ Ok list'
    → with_more list (passed first (λ items. passed more (λ behind. Ok (items ++ behind)))) ≡ with_more list' more
joined list list' (Err e) more h = cc
joined list list' (Ok items) (Err e) h = refl
joined list list' (Ok items) (Ok behind) h =
    let is : list ++ items ≡ list' = cc in
    ap (λ (l : List Item). Ok l) (sym (append_assoc list items behind)) ∙ ap (λ (l : List Item). Ok (l ++ behind)) is

pub spaced_more : (m : Math) (penalties : Bool) (fences : Fences) (spaces : Spaces) (piece : Piece) (rest : List Piece) (list list' : List Item)
    → with_more list (piece_items m penalties fences spaces piece rest) ≡ Ok list'
    → with_more list (spaced m penalties fences spaces (piece ∷ rest)) ≡ with_more list' (spaced m penalties fences (spaces_after spaces piece) rest)
spaced_more m penalties fences spaces piece rest list list' made =
    joined list list' (piece_items m penalties fences spaces piece rest) (spaced m penalties fences (spaces_after spaces piece) rest) made

pub spaced_stopped : (m : Math) (penalties : Bool) (fences : Fences) (spaces : Spaces) (piece : Piece) (rest : List Piece) (list : List Item) (error : MathError)
    → piece_items m penalties fences spaces piece rest ≡ Err error → with_more list (spaced m penalties fences spaces (piece ∷ rest)) ≡ Err error
spaced_stopped m penalties fences spaces piece rest list error made =
    ap (λ (first : Result (List Item) MathError).
    with_more list (passed first (λ items. passed (spaced m penalties fences (spaces_after spaces piece) rest) (λ behind. Ok (items ++ behind))))) made

pub spaced_over : (m : Math) (penalties : Bool) (fences : Fences) (spaces : Spaces) (list : List Item) → with_more list (spaced m penalties fences spaces []) ≡ Ok list
spaced_over m penalties fences spaces list = ap (λ (l : List Item). Ok l) (append-nil list)
