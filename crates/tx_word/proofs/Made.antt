-- What pieces become: one more at the end, and that there is no choice.
use Rattle.std.proofs.Common.{◌≡◌, ℕ, ◌+◌, ◌<◌, Bool, true, false, IsTrue, Option, Some, None, List, [], ◌∷◌, ◌++◌, length, map, take, get_or, refl, sym, ap, subst, ◌∙◌}
use Rattle.std.specs.List.{All, flat_map}
use Rattle.std.specs.Option.{option_map_or}
use Rattle.std.proofs.lemmas.List.{append-nil, append_assoc, take_more}
use Rattle.std.proofs.lemmas.List.Elements.{All-more}
use Rattle.tx_ligkern.proofs.Once.{once}
use Rattle.tx_ligkern.specs.declared.item.LigItem.{LigItem}
use Rattle.tx_ligkern.specs.Pieces.{word_of}
use Rattle.tx_node.specs.Items.{Item}
use Rattle.tx_tfm.specs.declared.named.NamedFont.{NamedFont}
use Rattle.tx_tfm.specs.declared.state.FontState.{FontState}
use Rattle.tx_tfm.specs.Format.{is_there}
use Rattle.tx_tfm.specs.Fonts.{font_at, has_character}
use Rattle.tx_word.specs.declared.piece.Piece.{Piece}
use Rattle.tx_word.specs.declared.piece.Piece.TheVariants.{Word, Space}
use Rattle.tx_word.specs.declared.piece.WordParams.{WordParams}
use Rattle.tx_word.specs.Lists.{Makes, AreMade, Nothing, Behind, HasGlue, WithPiece}
use Rattle.tx_word.specs.Divisions.{divided_items}
use Rattle.tx_word.specs.Words.{Composed, word_item, word_items}

-- what is in the font of a number is there in its file
pub there-in : (fonts : List FontState) (font : ℕ) (f : NamedFont) (chars : List ℕ) → font_at fonts font ≡ Some f → All (λ c. has_character fonts font c ≡ true) chars → All (λ c. IsTrue (is_there f.font.file c)) chars
there-in fonts font f chars at all = λ k d within. ap (λ (o : Option NamedFont). option_map_or (λ (g : NamedFont). is_there g.font.file (get_or chars k d)) o false) (sym at) ∙ all k d within

-- one piece more
pub made-push : (fonts : List FontState) (params : WordParams) (pieces : List Piece) (list : List Item) (piece : Piece) (made : List Item)
    → AreMade fonts params pieces list → Makes fonts params piece made → AreMade fonts params (pieces ++ piece ∷ []) (list ++ made)
made-push fonts params pieces list piece made Nothing m =
    subst (λ (l : List Item). AreMade fonts params (piece ∷ []) l) (append-nil made) (Behind piece [] made [] m Nothing)
made-push fonts params pieces list piece made (Behind p ps first behind m' rest) m =
    subst (λ (l : List Item). AreMade fonts params (p ∷ (ps ++ piece ∷ [])) l) (sym (append_assoc first behind made))
    (Behind p (ps ++ piece ∷ []) first (behind ++ made) m' (made-push fonts params ps behind piece made rest m))

-- characters become one thing in a font
composed-once : (font : Option NamedFont) (chars : List ℕ) (left right : Bool) (items others : List LigItem)
    → Composed font chars left right items → Composed font chars left right others → items ≡ others
composed-once None chars left right items others a b = a ∙ sym b
composed-once (Some f) chars left right items others a b = once f.font (word_of chars left right) items a others b

-- where no hyphen character is told, no place for a break is put in
pub without_breaks : (fonts : List FontState) (font : ℕ) (items : List LigItem) → flat_map (word_items fonts font None) items ≡ map (word_item fonts font) items
without_breaks fonts font [] = refl
without_breaks fonts font (item ∷ items) = ap (λ (rest : List Item). word_item fonts font item ∷ rest) (without_breaks fonts font items)

-- so does a piece
makes-once : (fonts : List FontState) (params : WordParams) (piece : Piece) (some others : List Item) → Makes fonts params piece some → Makes fonts params piece others → some ≡ others
makes-once fonts params (Word font chars left right places hyphen) some others a b =
    a.list_is ∙ ap (divided_items fonts font chars left right places hyphen) (composed-once (font_at fonts font) chars left right a.items b.items a.composed b.composed) ∙ sym b.list_is
makes-once fonts params (Space font factor) some others a b = a ∙ sym b

-- what pieces become, by the first of them
Parted : (fonts : List FontState) (params : WordParams) → List Piece → List Item → Type 0
Parted fonts params [] list = list ≡ []
Parted fonts params (piece ∷ pieces) list =
    (first : List Item) × (behind : List Item) × Makes fonts params piece first × AreMade fonts params pieces behind × (list ≡ first ++ behind)

parted : (fonts : List FontState) (params : WordParams) (pieces : List Piece) (list : List Item) → AreMade fonts params pieces list → Parted fonts params pieces list
unfolding Parted
parted fonts params pieces list Nothing = refl
parted fonts params pieces list (Behind p ps first behind m rest) = (first, behind, m, rest, refl)

-- and so do pieces
pub made-once : (fonts : List FontState) (params : WordParams) (pieces : List Piece) (list : List Item) → AreMade fonts params pieces list
    → (others : List Item) → AreMade fonts params pieces others → list ≡ others
unfolding Parted
made-once fonts params pieces list Nothing others h = sym (parted fonts params [] others h)
made-once fonts params pieces list (Behind p ps first behind m rest) others h =
    let k : Parted fonts params (p ∷ ps) others = parted fonts params (p ∷ ps) others h in
    ap (λ (x : List Item). x ++ behind) (makes-once fonts params p first k.0 m k.2)
    ∙ (ap (λ (x : List Item). k.0 ++ x) (made-once fonts params ps behind rest k.1 k.3) ∙ sym k.4)

-- one step of the loop over pieces: the k-th is made
module _ (fonts : List FontState) (params : WordParams) (pieces : List Piece) (k : ℕ) (piece : Piece) (here : k < length pieces) (is : piece ≡ get_or pieces k piece) where
  pub made-on : {list after : List Item} → AreMade fonts params (take k pieces) list → WithPiece fonts params piece list after → AreMade fonts params (take (k + 1) pieces) after
  made-on {list} {after} so_far w =
      subst (λ (ps : List Piece). AreMade fonts params ps after) (sym (take_more pieces k piece here ∙ ap (λ (p : Piece). take k pieces ++ p ∷ []) (sym is)))
      (subst (λ (l : List Item). AreMade fonts params (take k pieces ++ piece ∷ []) l) (sym w.after_is) (made-push fonts params (take k pieces) list piece w.made so_far w.makes))

  pub fits-on : All (HasGlue fonts params) (take k pieces) → HasGlue fonts params piece → All (HasGlue fonts params) (take (k + 1) pieces)
  fits-on so_far h = All-more (HasGlue fonts params) pieces k piece here so_far (subst (HasGlue fonts params) is h)
