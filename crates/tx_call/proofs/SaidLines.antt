-- The lines that were said so far, and those that are left, are all of them.
use Rattle.std.proofs.Common.{◌≡◌, ℕ, ◌+◌, ◌<◌, List, [], ◌∷◌, ◌++◌, length, take, drop, get_or, Option, refl, sym, ap, ◌∙◌, subst}
use Rattle.std.proofs.lemmas.List.{take_more, drop_more, take-append-drop}
use Rattle.tx_io.specs.Output.{Output, Piece, Say, told}
use Rattle.tx_io.specs.Cut.{IsCutShort}
use Rattle.tx_io.proofs.Told.{told-append}
use Rattle.tx_io.proofs.CutShort.{cut-behind, cut-longer}
use Rattle.tx_call.specs.Listing.{said_lines}

said-append : (first later : List (List ℕ)) → said_lines (first ++ later) ≡ said_lines first ++ said_lines later
said-append [] later = refl
said-append (line ∷ first) later = ap (λ ps. Say line ∷ ps) (said-append first later)

-- one line more was said
pub said-on : (before : Option Output) {sink sink' : Option Output} (lines : List (List ℕ)) (k : ℕ) (line : List ℕ) → sink ≡ told before (said_lines (take k lines)) → k < length lines → line ≡ get_or lines k line
    → sink' ≡ told sink (Say line ∷ []) → sink' ≡ told before (said_lines (take (k + 1) lines))
said-on before lines k line so_far more is puts =
    let one : take (k + 1) lines ≡ take k lines ++ line ∷ [] = take_more lines k line more ∙ ap (λ x. take k lines ++ x ∷ []) (sym is) in
    puts ∙ ap (λ o. told o (Say line ∷ [])) so_far ∙ told-append before (said_lines (take k lines)) (Say line ∷ [])
    ∙ ap (told before) (sym (said-append (take k lines) (line ∷ [])) ∙ ap said_lines (sym one))

-- or only a part of it
pub said-cut : {before sink : Option Output} (lines : List (List ℕ)) (k : ℕ) (line : List ℕ) (after : Option Output) → sink ≡ told before (said_lines (take k lines)) → k < length lines → line ≡ get_or lines k line
    → IsCutShort sink (Say line ∷ []) after → IsCutShort before (said_lines lines) after
said-cut {before = before} lines k line after so_far more is cut =
    let left : drop k lines ≡ line ∷ drop (k + 1) lines = drop_more lines k line more ∙ ap (λ x. x ∷ drop (k + 1) lines) (sym is) in
    let first : List Piece = said_lines (take k lines) in
    let later : List Piece = said_lines (drop (k + 1) lines) in
    let whole : first ++ (Say line ∷ later) ≡ said_lines lines =
    ap (λ ls. first ++ said_lines ls) (sym left) ∙ sym (said-append (take k lines) (drop k lines)) ∙ ap said_lines (take-append-drop k lines) in
    subst (λ (ps : List Piece). IsCutShort before ps after) whole
    (cut-behind before first (Say line ∷ later) after
    (cut-longer (told before first) (Say line ∷ []) later after (subst (λ (o : Option Output). IsCutShort o (Say line ∷ []) after) so_far cut)))
