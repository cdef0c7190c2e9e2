-- A preamble is read as it is written.
use Rattle.std.proofs.Common.{◌≡◌, ◌∙◌, ℕ, suc, Bool, false, cond, List, [], ◌∷◌, ◌++◌, length, map, Option, Some, None, Result, Ok, Err, refl, sym, ap, append_assoc, arith}
use Rattle.std.proofs.lemmas.Bool.{ne_eqb}
use Rattle.std.proofs.lemmas.List.{append-nil}
use Rattle.tx_char.specs.declared.tokens.Token.{Token}
use Rattle.tx_num.specs.Glue.{GlueSpec}
use Rattle.tx_seen.specs.declared.error.TexError.{TexError}
use Rattle.tx_align.specs.declared.column.Column.{Column}
use Rattle.tx_align.specs.declared.part.Part.{Part}
use Rattle.tx_align.specs.declared.part.Part.TheVariants.{Before, Behind, Ended}
use Rattle.tx_align.specs.declared.pre_item.PreItem.{PreItem}
use Rattle.tx_align.specs.declared.pre_item.PreItem.TheVariants as item
use Rattle.tx_align.specs.Preambles.{Forming, behind_takes, in_u_part, is_empty, nothing_read, takes, with_column}
use Rattle.tx_align.specs.Grammar.{Piece, Sign, Blank, Skip, WrittenColumn, WrittenPreamble, AreApart, column_meant, column_text, columns_meant, columns_text, item_of, meant, read_next, reads, repeats_meant, repeats_text, skip_after, skip_at_last, skip_at_others, skip_behind_column, skip_behind_columns, skip_behind_repeats, text_of, tokens_of, u_part_of}

abbrev forming : GlueSpec → List Column → Option ℕ → GlueSpec → List Token → List Token → Part → Forming
forming first columns repeats skip u v part =
    record { first = first; columns = columns; repeats = repeats; skip = skip; u_part = u; v_part = v; part = part }

abbrev good : Forming → Result Forming TexError
good p = Ok p

-- items behind items
via : (one other more : Forming → Result Forming TexError) (r : Result Forming TexError) → ((p : Forming) → one p ≡ read_next more (other p))
    → read_next one r ≡ read_next more (read_next other r)
via one other more (Err e) h = refl
via one other more (Ok p) h = h p

reads-append : (p : Forming) (xs ys : List PreItem) → reads p (xs ++ ys) ≡ read_next (λ q. reads q ys) (reads p xs)
reads-append p [] ys = refl
reads-append p (x ∷ xs) ys = via (λ q. reads q (xs ++ ys)) (λ q. reads q xs) (λ q. reads q ys) (takes p x p.part) (λ q. reads-append q xs ys)

then-reads : (p q : Forming) (xs ys : List PreItem) (r : Result Forming TexError) → reads p xs ≡ good q → reads q ys ≡ r → reads p (xs ++ ys) ≡ r
then-reads p q xs ys r one more = reads-append p xs ys ∙ ap (λ (s : Result Forming TexError). read_next (λ n. reads n ys) s) one ∙ more

-- a v-part
v-read : (first : GlueSpec) (columns : List Column) (repeats : Option ℕ) (skip : GlueSpec) (u v : List Token) (side : List Piece)
    → reads (forming first columns repeats skip u v Behind) (map item_of side) ≡ good (forming first columns repeats (skip_after skip side) u (v ++ tokens_of side) Behind)
v-read first columns repeats skip u v [] = ap (λ (w : List Token). good (forming first columns repeats skip u w Behind)) (sym (append-nil v))
v-read first columns repeats skip u v (Sign t ∷ side) =
    v-read first columns repeats skip u (v ++ t ∷ []) side
    ∙ ap (λ (w : List Token). good (forming first columns repeats (skip_after skip side) u w Behind)) (append_assoc v (t ∷ []) (tokens_of side))
v-read first columns repeats skip u v (Blank t ∷ side) =
    v-read first columns repeats skip u (v ++ t ∷ []) side
    ∙ ap (λ (w : List Token). good (forming first columns repeats (skip_after skip side) u w Behind)) (append_assoc v (t ∷ []) (tokens_of side))
v-read first columns repeats skip u v (Skip glue ∷ side) = v-read first columns repeats glue u v side

-- a u-part that has a token
is-begun : (h : Token) (u : List Token) → is_empty (h ∷ u) ≡ false
is-begun h u = ne_eqb (length (h ∷ u)) 0 (λ is. omega arith)

more-u-read : (first : GlueSpec) (columns : List Column) (repeats : Option ℕ) (skip : GlueSpec) (h : Token) (u v : List Token) (side : List Piece)
    → reads (forming first columns repeats skip (h ∷ u) v Before) (map item_of side) ≡ good (forming first columns repeats (skip_after skip side) (h ∷ (u ++ tokens_of side)) v Before)
more-u-read first columns repeats skip h u v [] = ap (λ (w : List Token). good (forming first columns repeats skip (h ∷ w) v Before)) (sym (append-nil u))
more-u-read first columns repeats skip h u v (Sign t ∷ side) =
    more-u-read first columns repeats skip h (u ++ t ∷ []) v side
    ∙ ap (λ (w : List Token). good (forming first columns repeats (skip_after skip side) (h ∷ w) v Before)) (append_assoc u (t ∷ []) (tokens_of side))
more-u-read first columns repeats skip h u v (Blank t ∷ side) =
    let p : Forming = forming first columns repeats skip (h ∷ u) v Before in
    ap (λ (b : Bool). reads (cond b p (in_u_part p t)) (map item_of side)) (is-begun h u)
    ∙ more-u-read first columns repeats skip h (u ++ t ∷ []) v side
    ∙ ap (λ (w : List Token). good (forming first columns repeats (skip_after skip side) (h ∷ w) v Before)) (append_assoc u (t ∷ []) (tokens_of side))
more-u-read first columns repeats skip h u v (Skip glue ∷ side) = more-u-read first columns repeats glue h u v side

-- a u-part from its beginning
u-read : (first : GlueSpec) (columns : List Column) (repeats : Option ℕ) (skip : GlueSpec) (v : List Token) (side : List Piece)
    → reads (forming first columns repeats skip [] v Before) (map item_of side) ≡ good (forming first columns repeats (skip_after skip side) (u_part_of side) v Before)
u-read first columns repeats skip v [] = refl
u-read first columns repeats skip v (Sign t ∷ side) = more-u-read first columns repeats skip t [] v side
u-read first columns repeats skip v (Blank t ∷ side) = u-read first columns repeats skip v side
u-read first columns repeats skip v (Skip glue ∷ side) = u-read first columns repeats glue v side

-- a column with what ends it
column-read : (first : GlueSpec) (columns : List Column) (repeats : Option ℕ) (skip : GlueSpec) (c : WrittenColumn) (end : PreItem) (part : Part)
    → ((p : Forming) → behind_takes p end ≡ good (with_column p part))
    → reads (forming first columns repeats skip [] [] Before) (column_text end c) ≡ good (forming first (columns ++ column_meant skip c ∷ []) repeats (skip_behind_column skip c) [] [] part)
column-read first columns repeats skip c end part ends =
    let u : List Token = u_part_of c.before in
    let v : List Token = tokens_of c.behind in
    let within : GlueSpec = skip_after skip c.before in
    let behind : GlueSpec = skip_behind_column skip c in
    let made : Result Forming TexError = good (forming first (columns ++ column_meant skip c ∷ []) repeats behind [] [] part) in
    then-reads (forming first columns repeats skip [] [] Before) (forming first columns repeats within u [] Before) (map item_of c.before) (item.Param ∷ (map item_of c.behind ++ end ∷ [])) made
    (u-read first columns repeats skip [] c.before)
    (then-reads (forming first columns repeats within u [] Behind) (forming first columns repeats behind u v Behind) (map item_of c.behind) (end ∷ []) made
    (v-read first columns repeats within u [] c.behind)
    (ap (λ (r : Result Forming TexError). read_next (λ n. reads n []) r) (ends (forming first columns repeats behind u v Behind))))

columns-read : (first : GlueSpec) (columns : List Column) (repeats : Option ℕ) (skip : GlueSpec) (cs : List WrittenColumn)
    → reads (forming first columns repeats skip [] [] Before) (columns_text cs) ≡ good (forming first (columns ++ columns_meant skip cs) repeats (skip_behind_columns skip cs) [] [] Before)
columns-read first columns repeats skip [] = ap (λ (some : List Column). good (forming first some repeats skip [] [] Before)) (sym (append-nil columns))
columns-read first columns repeats skip (c ∷ cs) =
    let behind : GlueSpec = skip_behind_column skip c in
    let more : List Column = columns ++ column_meant skip c ∷ [] in
    then-reads (forming first columns repeats skip [] [] Before) (forming first more repeats behind [] [] Before) (column_text item.Tab c) (columns_text cs)
    (good (forming first (columns ++ columns_meant skip (c ∷ cs)) repeats (skip_behind_columns skip (c ∷ cs)) [] [] Before))
    (column-read first columns repeats skip c item.Tab Before (λ p. refl))
    (columns-read first more repeats behind cs
    ∙ ap (λ (some : List Column). good (forming first some repeats (skip_behind_columns behind cs) [] [] Before)) (append_assoc columns (column_meant skip c ∷ []) (columns_meant behind cs)))

-- the second & of &&
repeats-read : (first : GlueSpec) (columns : List Column) (skip : GlueSpec) (repeats : Option (List Piece)) → AreApart repeats
    → reads (forming first columns None skip [] [] Before) (repeats_text repeats) ≡ good (forming first columns (repeats_meant (length columns) repeats) (skip_behind_repeats skip repeats) [] [] Before)
repeats-read first columns skip None h = refl
repeats-read first columns skip (Some between) h =
    let within : GlueSpec = skip_after skip between in
    then-reads (forming first columns None skip [] [] Before) (forming first columns None within (u_part_of between) [] Before) (map item_of between) (item.Tab ∷ [])
    (good (forming first columns (Some (length columns)) within [] [] Before))
    (u-read first columns None skip [] between)
    (ap (λ (u : List Token). reads (forming first columns None within u [] Before) (item.Tab ∷ [])) h)

columns-count : (skip : GlueSpec) (cs : List WrittenColumn) → length (columns_meant skip cs) ≡ length cs
columns-count skip [] = refl
columns-count skip (c ∷ cs) = ap suc (columns-count (skip_behind_column skip c) cs)

-- the whole
pub read_as_written : (tabskip : GlueSpec) (w : WrittenPreamble) → AreApart w.repeats → reads (nothing_read tabskip) (text_of w) ≡ good (meant tabskip w)
read_as_written tabskip w h =
    let made : Result Forming TexError = good (meant tabskip w) in
    let once : List Column = columns_meant tabskip w.once in
    let skip : GlueSpec = skip_behind_columns tabskip w.once in
    let repeats : Option ℕ = repeats_meant (length w.once) w.repeats in
    let skip_others : GlueSpec = skip_at_others tabskip w in
    let others : List Column = columns_meant skip_others w.others in
    let skip_last : GlueSpec = skip_at_last tabskip w in
    then-reads (nothing_read tabskip) (forming tabskip once None skip [] [] Before) (columns_text w.once) (repeats_text w.repeats ++ (columns_text w.others ++ column_text item.Cr w.last)) made
    (columns-read tabskip [] None tabskip w.once)
    (then-reads (forming tabskip once None skip [] [] Before) (forming tabskip once repeats skip_others [] [] Before) (repeats_text w.repeats) (columns_text w.others ++ column_text item.Cr w.last) made
    (repeats-read tabskip once skip w.repeats h
    ∙ ap (λ (n : ℕ). good (forming tabskip once (repeats_meant n w.repeats) skip_others [] [] Before)) (columns-count tabskip w.once))
    (then-reads (forming tabskip once repeats skip_others [] [] Before) (forming tabskip (once ++ others) repeats skip_last [] [] Before) (columns_text w.others) (column_text item.Cr w.last) made
    (columns-read tabskip once repeats skip_others w.others)
    (column-read tabskip (once ++ others) repeats skip_last w.last item.Cr Ended (λ p. refl)
    ∙ ap (λ (some : List Column). good (forming tabskip some repeats (skip_behind_column skip_last w.last) [] [] Ended)) (append_assoc once others (column_meant skip_last w.last ∷ [])))))
