-- Pieces that are put out behind others.
use Rattle.std.proofs.Common.{◌≡◌, List, [], ◌++◌, true, false, Option, Result, Ok, Err, sym, ap, ◌∙◌, subst, append-nil}
use Rattle.std.specs.Prelude.{IsErr}
use Rattle.tx_io.specs.Output.{Output, Piece, told}
use Rattle.tx_io.specs.Cut.{IsCutShort}
use Rattle.tx_io.proofs.Told.{told-append}
use Rattle.tx_io.proofs.CutShort.{cut-behind, cut-longer}
use Rattle.tx_call.specs.declared.trouble.Trouble.{Trouble}
use Rattle.tx_call.specs.Trouble.{PutsOut}

-- where trouble came, the first pieces were put out
pub puts-cut : {T : Type 0} (r : Result T Trouble) {before : Option Output} {pieces : List Piece} {after : Option Output} → IsErr r → IsCutShort before pieces after → PutsOut r before pieces after
puts-cut (Ok value) err cut = absurd (let no : false ≡ true = err in cc)
puts-cut (Err trouble) err cut = cut

-- pieces put out behind others
pub puts-behind : {T : Type 0} (r : Result T Trouble) (before : Option Output) (first : List Piece) {between : Option Output} (second : List Piece) (after : Option Output)
    → between ≡ told before first → PutsOut r between second after → PutsOut r before (first ++ second) after
puts-behind (Ok value) before first second after whole puts =
    puts ∙ ap (λ o. told o second) whole ∙ told-append before first second
puts-behind (Err trouble) before first second after whole puts =
    cut-behind before first second after (subst (λ (o : Option Output). IsCutShort o second after) whole puts)

-- the first of two parts was cut short
pub puts-first : {T : Type 0} (r : Result T Trouble) {before : Option Output} (first later : List Piece) {after : Option Output} → IsErr r → IsCutShort before first after → PutsOut r before (first ++ later) after
puts-first r {before = before} first later {after = after} err cut = puts-cut r err (cut-longer before first later after cut)

-- whatever came, the first pieces were put out
pub puts-some : {T : Type 0} (r : Result T Trouble) {before : Option Output} (pieces : List Piece) {after : Option Output} → PutsOut r before pieces after → IsCutShort before pieces after
puts-some (Ok value) {before = before} pieces whole = record { whole = pieces; left = []; are = sym (append-nil pieces); next = whole }
puts-some (Err trouble) pieces cut = cut
