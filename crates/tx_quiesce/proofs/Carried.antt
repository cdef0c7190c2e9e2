-- Rows of which the first are kept, and what comes later stands behind them, are those of the run with these pages.
use Rattle.std.proofs.Common.{◌≡◌, ℕ, zero, suc, ◌+◌, ◌-◌, ◌≤◌, length-drop, List, [], ◌∷◌, ◌++◌, length, map, take, drop, refl, sym, ap, ◌∙◌, subst, arith}
use Rattle.std.proofs.lemmas.List.{map-append, take-map, take-take, take-append-le, take_all, length-map, length-take-le}
use Rattle.std.proofs.Math.Seq.{drop-append_seam}
use Rattle.std.proofs.lemmas.List.Elements.{All-append, All-take}
use Rattle.tx_files.specs.declared.edit.Change.{Change}
use Rattle.tx_machine.specs.Machine.{Formatter}
use Rattle.tx_checkpoint.specs.declared.row.Row.{Row}
use Rattle.tx_checkpoint.specs.declared.row.Last.{Last}
use Rattle.tx_checkpoint.specs.declared.row.Rows.{Rows}
use Rattle.tx_checkpoint.specs.Meant.{AreRows, AreIdle, IsIdle, row_meant, rows_meant}
use Rattle.tx_checkpoint.specs.Rows.{History, PageRow, rows_in, behind}
use Rattle.tx_quiesce.specs.declared.further.Further.{Further}
use Rattle.tx_quiesce.specs.declared.further.Further.TheVariants.{Goes, Stands}
use Rattle.tx_quiesce.specs.declared.later.Later.{Later}
use Rattle.tx_quiesce.specs.Further.{IsFurther, FurtherIsIdle}
use Rattle.tx_quiesce.specs.Later.{IsLater, LaterIsIdle, AreReused, pages_of, pieces_of, rows_of, last_of}
use Rattle.tx_quiesce.specs.Moves.{carried_page, carried_row}
use Rattle.tx_quiesce.proofs.Found.{drop-map}

-- a list of which a part is changed: what stands in front of it, and the part
module _ {X : Type 0} (f : X → X) (kept from count : ℕ) (xs ys : List X) (order : kept ≤ from) (within : from + count ≤ length xs) (is : ys ≡ take from xs ++ (map f (take count (drop from xs)) ++ drop count (drop from xs))) where
  front_size : length (take from xs) ≡ from
  front_size = length-take-le from xs (omega arith)

  pub front-stays : take kept ys ≡ take kept xs
  front-stays = ap (take kept) is ∙ take-append-le kept (take from xs) _ (omega (arith, front_size)) ∙ take-take kept from xs order

  pub part-changes : take count (drop from ys) ≡ map f (take count (drop from xs))
  part-changes =
      let part : List X = map f (take count (drop from xs)) in
      let left : length (drop from xs) ≡ length xs - from = length-drop from xs in
      let size : length part ≡ count = length-map (take count (drop from xs)) f ∙ length-take-le count (drop from xs) (omega arith) in
      ap (λ zs. take count (drop from zs)) is
      ∙ ap (take count) (ap (λ n. drop n (take from xs ++ (part ++ drop count (drop from xs)))) (sym front_size) ∙ drop-append_seam (take from xs) (part ++ drop count (drop from xs)))
      ∙ take-append-le count part _ (omega arith) ∙ take_all count part (omega arith)

-- four parts of a list, each mapped
four_parts : {A B : Type 0} (f : A → B) (kept : ℕ) (all formatted middle more : List A)
    → map f (take kept all ++ (formatted ++ (middle ++ more))) ≡ take kept (map f all) ++ (map f formatted ++ (map f middle ++ map f more))
four_parts f kept all formatted middle more =
    map-append f (take kept all) (formatted ++ (middle ++ more))
    ∙ (λ i. sym (take-map f kept all) i ++ (map-append f formatted (middle ++ more) ∙ ap (λ rest. map f formatted ++ rest) (map-append f middle more)) i)

-- a part of a list, moved, where what is looked at stays
module _ {A B : Type 0} (f : A → B) (g : A → A) (k : B → B) (same : (a : A) → f (g a) ≡ k (f a)) where
  each_same : (xs : List A) → map f (map g xs) ≡ map k (map f xs)
  each_same [] = refl
  each_same (x ∷ xs) = λ i. same x i ∷ each_same xs i

  middle_is : (count from : ℕ) (all : List A) → map f (take count (map g (drop from all))) ≡ map k (take count (drop from (map f all)))
  middle_is count from all =
      sym (take-map f count (map g (drop from all))) ∙ ap (take count) (each_same (drop from all)) ∙ take-map k count (map f (drop from all))
      ∙ ap (λ xs. map k (take count xs)) (sym (drop-map f from all))

map_same : {B : Type 0} (xs : List B) → map (λ x. x) xs ≡ xs
map_same [] = refl
map_same (x ∷ xs) = ap (λ rest. x ∷ rest) (map_same xs)

module _ {S M : Type 0} (meaning : S → M) (changes : List Change) where
  carried_meant : (rows : List (Row S)) → rows_meant meaning (map (carried_row changes) rows) ≡ map (carried_row changes) (rows_meant meaning rows)
  carried_meant [] = refl
  carried_meant (row ∷ rows) = ap (λ rest. carried_row changes (row_meant meaning row) ∷ rest) (carried_meant rows)

  -- the lists of what comes further
  further_pages : (last : Last) (h : History M) (f : Further S) → IsFurther meaning changes last h f → pages_of f ≡ map (λ page. page.body) h.pages
  further_pages last h (Goes rows) is = is.pages_are
  further_pages last h (Stands end) is = sym (ap (λ (it : History M). map (λ page. page.body) it.pages) is)

  further_pieces : (last : Last) (h : History M) (f : Further S) → IsFurther meaning changes last h f → pieces_of f ≡ map (λ page. page.piece) h.pages
  further_pieces last h (Goes rows) is = is.pieces_are
  further_pieces last h (Stands end) is = sym (ap (λ (it : History M). map (λ page. page.piece) it.pages) is)

  further_rows : (last : Last) (h : History M) (f : Further S) → IsFurther meaning changes last h f → rows_meant meaning (rows_of f) ≡ rows_in h.pages
  further_rows last h (Goes rows) is = is.rows_are
  further_rows last h (Stands end) is = sym (ap (λ (it : History M). rows_in it.pages) is)

  further_last : (last : Last) (h : History M) (f : Further S) → IsFurther meaning changes last h f → last_of changes last f ≡ h.last
  further_last last h (Goes rows) is = is.last_is
  further_last last h (Stands end) is = sym (ap (λ (it : History M). it.last) is)

  -- the first pages of an old run, and what comes later behind them
  pub record LaterTells (old : Rows S) (kept : ℕ) (later : Later S) (h : History M) : Type 0 where
    pub pages : take kept old.pages.items ++ (later.front.pages.items ++ (take later.count (drop later.from old.pages.items) ++ pages_of later.further)) ≡ map (λ page. page.body) h.pages
    pub pieces : take kept old.pieces.items ++ (later.front.pieces.items ++ (take later.count (drop later.from old.pieces.items) ++ pieces_of later.further)) ≡ map (λ page. page.piece) h.pages
    pub rows : rows_meant meaning (take kept old.rows.items ++ (later.front.rows.items ++ (map (carried_row changes) (take later.count (drop later.from old.rows.items)) ++ rows_of later.further))) ≡ rows_in h.pages
    pub last : last_of changes old.last later.further ≡ h.last

  pub later-tells : {old : Rows S} {kept : ℕ} {h whole : History M} {later : Later S} → AreRows meaning old h → IsLater meaning changes old h later whole → LaterTells old kept later (behind (take kept h.pages) whole)
  later-tells {old = old} {kept = kept} {h = h} {whole = whole} {later = later} olds is =
      let middle : List (PageRow M) = take later.count (map (carried_page changes) (drop later.from h.pages)) in
      let whole_pages : whole.pages ≡ is.formatted ++ (middle ++ is.more.pages) = ap (λ it. it.pages) is.whole_is in
      let bodies : map (λ (page : PageRow M). page.body) middle ≡ take later.count (drop later.from (map (λ (page : PageRow M). page.body) h.pages)) =
      middle_is (λ (page : PageRow M). page.body) (carried_page changes) (λ x. x) (λ page. refl) later.count later.from h.pages ∙ map_same (take later.count (drop later.from (map (λ (page : PageRow M). page.body) h.pages))) in
      let pieces : map (λ (page : PageRow M). page.piece) middle ≡ take later.count (drop later.from (map (λ (page : PageRow M). page.piece) h.pages)) =
      middle_is (λ (page : PageRow M). page.piece) (carried_page changes) (λ x. x) (λ page. refl) later.count later.from h.pages ∙ map_same (take later.count (drop later.from (map (λ (page : PageRow M). page.piece) h.pages))) in
      let rows : map (λ (page : PageRow M). page.row) middle ≡ map (carried_row changes) (take later.count (drop later.from (rows_in h.pages))) =
      middle_is (λ (page : PageRow M). page.row) (carried_page changes) (carried_row changes) (λ page. refl) later.count later.from h.pages in
      let moved : rows_meant meaning (map (carried_row changes) (take later.count (drop later.from old.rows.items))) ≡ map (carried_row changes) (take later.count (drop later.from (rows_in h.pages))) =
      carried_meant (take later.count (drop later.from old.rows.items))
      ∙ ap (map (carried_row changes)) (sym (take-map (row_meant meaning) later.count (drop later.from old.rows.items)) ∙ ap (take later.count) (sym (drop-map (row_meant meaning) later.from old.rows.items)) ∙ ap (λ xs. take later.count (drop later.from xs)) olds.rows_are) in
      record {
        pages = (λ i. take kept (olds.pages_are i) ++ (is.pages_are i ++ ((ap (λ xs. take later.count (drop later.from xs)) olds.pages_are ∙ sym bodies) i ++ further_pages old.last is.more later.further is.more_is i)))
            ∙ sym (four_parts (λ (page : PageRow M). page.body) kept h.pages is.formatted middle is.more.pages) ∙ ap (λ pages. map (λ (page : PageRow M). page.body) (take kept h.pages ++ pages)) (sym whole_pages);
        pieces = (λ i. take kept (olds.pieces_are i) ++ (is.pieces_are i ++ ((ap (λ xs. take later.count (drop later.from xs)) olds.pieces_are ∙ sym pieces) i ++ further_pieces old.last is.more later.further is.more_is i)))
            ∙ sym (four_parts (λ (page : PageRow M). page.piece) kept h.pages is.formatted middle is.more.pages) ∙ ap (λ pages. map (λ (page : PageRow M). page.piece) (take kept h.pages ++ pages)) (sym whole_pages);
        rows = four_parts (row_meant meaning) kept old.rows.items later.front.rows.items (map (carried_row changes) (take later.count (drop later.from old.rows.items))) (rows_of later.further)
            ∙ (λ i. take kept (olds.rows_are i) ++ (is.rows_are i ++ ((moved ∙ sym rows) i ++ further_rows old.last is.more later.further is.more_is i)))
            ∙ sym (four_parts (λ (page : PageRow M). page.row) kept h.pages is.formatted middle is.more.pages) ∙ ap (λ pages. map (λ (page : PageRow M). page.row) (take kept h.pages ++ pages)) (sym whole_pages);
        last = further_last old.last is.more later.further is.more_is ∙ sym (ap (λ it. it.last) is.whole_is);
      }

  pub reused-rows : {old new : Rows S} {kept : ℕ} {h whole : History M} {later : Later S} → AreRows meaning old h → IsLater meaning changes old h later whole → AreReused changes old kept later new
      → AreRows meaning new (behind (take kept h.pages) whole)
  reused-rows {old = old} {kept = kept} {h = h} {whole = whole} {later = later} olds is are =
      let tells : LaterTells old kept later (behind (take kept h.pages) whole) = later-tells olds is in
      record {
        pages_are = are.pages_are ∙ tells.pages;
        pieces_are = are.pieces_are ∙ tells.pieces;
        rows_are = ap (rows_meant meaning) are.rows_are ∙ tells.rows;
        last_is = are.last_is ∙ tells.last;
      }

-- the states stay idle
module _ {S M : Type 0} (m : Formatter M) (meaning : S → M) (pending : S → List ℕ) (changes : List Change) where
  idle_drop : (n : ℕ) (rows : List (Row S)) → AreIdle m meaning pending rows → AreIdle m meaning pending (drop n rows)
  idle_drop zero rows idle = idle
  idle_drop (suc n) [] idle = idle
  idle_drop (suc n) (row ∷ rows) idle = idle_drop n rows (λ k d below. idle (suc k) d (omega arith))

  idle_moved : (rows : List (Row S)) → AreIdle m meaning pending rows → AreIdle m meaning pending (map (carried_row changes) rows)
  idle_moved [] idle = λ k d below. absurd (omega arith)
  idle_moved (row ∷ rows) idle = both (idle 0 row (omega arith)) (idle_moved rows (λ k d below. idle (suc k) d (omega arith)))
    where
      both : IsIdle m meaning pending row.state → AreIdle m meaning pending (map (carried_row changes) rows) → AreIdle m meaning pending (carried_row changes row ∷ map (carried_row changes) rows)
      both first others zero d below = first
      both first others (suc k) d below = others k d (omega arith)

  idle_further : (f : Further S) → FurtherIsIdle m meaning pending f → AreIdle m meaning pending (rows_of f)
  idle_further (Goes rows) idle = idle
  idle_further (Stands end) idle = λ k d below. absurd (omega arith)

  pub reused-idle : {old new : Rows S} {kept : ℕ} {later : Later S} → AreIdle m meaning pending old.rows.items → LaterIsIdle m meaning pending later → AreReused changes old kept later new → AreIdle m meaning pending new.rows.items
  reused-idle {old = old} {kept = kept} {later = later} olds idle are =
      let IsSo : Row S → Type 0 = λ row. IsIdle m meaning pending row.state in
      let part : List (Row S) = take later.count (drop later.from old.rows.items) in
      let part_idle : AreIdle m meaning pending part = All-take IsSo later.count (drop later.from old.rows.items) (idle_drop later.from old.rows.items olds) in
      subst (AreIdle m meaning pending) (sym are.rows_are)
      (All-append IsSo (take kept old.rows.items) _ (All-take IsSo kept old.rows.items olds)
      (All-append IsSo later.front.rows.items _ idle.0
      (All-append IsSo (map (carried_row changes) part) (rows_of later.further) (idle_moved part part_idle) (idle_further later.further idle.1))))
