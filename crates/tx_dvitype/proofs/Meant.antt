-- The commands of a page mean what is met on it.
use Rattle.std.proofs.Common.{◌≡◌, ℕ, suc, ◌+◌, ◌≤◌, ◌==◌, nat_le, true, false, cond, List, [], ◌∷◌, ◌++◌, length, get_or, map, fold, Option, Some, None, refl, sym, ap, ◌∙◌, subst, arith, append_assoc}
use Rattle.std.proofs.lemmas.Bool.{le-leb, lt-leb}
use Rattle.std.proofs.lemmas.List.{append-nil, map-append}
use Rattle.std.proofs.lemmas.List.Sums.{fold-append}
use Rattle.tx_dvitype.specs.declared.error.DviRule.{DviRule}
use Rattle.tx_dvitype.specs.declared.reader.ReadPage.{ReadPage}
use Rattle.tx_dvi.specs.declared.font.FontDefinition.{FontDefinition}
use Rattle.tx_dvi.specs.declared.placed.Registers.{Registers}
use Rattle.tx_dvi.specs.Meaning.{Contents, Reader as PageReader, all_met, carried_out, meaning, operands, page_start, read, when_whole}
use Rattle.tx_dvitype.specs.Grammar.{Command, SetChar, Set1, SetRule, PutRule, Push, Pop, Right, W0, W, X0, X, Down, Y0, Y, Z0, Z, FntNum, Fnt1, Xxx, FntDef1, AreBytes, ArePages, FileText, IsPage, IsTextOf, Lead, PageText, behind, bytes_of, command_bytes, commands_bytes, defines, end_of, fonts_in, last_elements, last_pointer, lettered, nowhere, page_long, pages_elements, pointer_to, preamble_bytes, taken_back}
use Rattle.tx_dvitype.specs.Partial.{no_widths, is_near, wanted}
use Rattle.tx_dvitype.specs.ReadBack.{AreMeant}
use Rattle.tx_dvitype.proofs.Amounts.{near-from}
use Rattle.tx_dvitype.proofs.Commands.{IsBetween, between-next, left-bytes, right-bytes, spelled}
use Rattle.tx_dvitype.proofs.Numbers.{AreDistinct}
use Rattle.tx_dvitype.proofs.Spelling.{Spelled}

wants : (opcode : ℕ) (ops : List ℕ) (o : Option ℕ) → wanted (opcode ∷ ops) ≡ o → operands opcode (opcode ∷ ops) ≡ o
unfolding wanted
wants opcode ops o e = e

module _ (p : PageReader) (c : Command) (opcode : ℕ) (ops : List ℕ) (empty : p.begun ≡ []) (s : Spelled p c opcode ops) where
  -- the bytes of a command, from one of them on
  command-read : (text pre done : List ℕ) (byte : ℕ) → pre ++ byte ∷ [] ≡ opcode ∷ done → done ++ text ≡ ops → fold (read no_widths) (read no_widths (Some (record p { begun = pre })) byte) text ≡ Some (behind c p)
  command-read [] pre done byte is e =
      let all : pre ++ byte ∷ [] ≡ opcode ∷ ops = is ∙ (λ i. opcode ∷ (sym (append-nil done) ∙ e) i) in
      let past : nat_le (suc (length ops)) (length ops) ≡ false = lt-leb (suc (length ops)) (length ops) (omega arith) in
      (λ i. when_whole no_widths (operands (get_or (all i) 0 0) (all i)) (all i) (record p { begun = pre }))
      ∙ (λ i. when_whole no_widths (wants opcode ops (Some (length ops)) s.whole i) (opcode ∷ ops) (record p { begun = pre }))
      ∙ (λ i. cond {A = Option PageReader} (past i) (Some (record p { begun = opcode ∷ ops })) (carried_out no_widths opcode ops (record p { begun = sym empty i })))
      ∙ s.carried
  command-read (b ∷ text) pre done byte is e =
      let more : (m : ℕ) × (wanted (opcode ∷ done) ≡ Some m) × (suc (length done) ≤ m) = s.parts done text b e in
      let fits : nat_le (suc (length done)) more.0 ≡ true = le-leb (suc (length done)) more.0 more.2 in
      (λ i. fold (read no_widths) (when_whole no_widths (operands (get_or (is i) 0 0) (is i)) (is i) (record p { begun = pre })) (b ∷ text))
      ∙ (λ i. fold (read no_widths) (when_whole no_widths (wants opcode done (Some more.0) more.1 i) (opcode ∷ done) (record p { begun = pre })) (b ∷ text))
      ∙ (λ i. fold (read no_widths) (cond {A = Option PageReader} (fits i) (Some (record p { begun = opcode ∷ done })) (carried_out no_widths opcode done (record p { begun = [] }))) (b ∷ text))
      ∙ command-read text (opcode ∷ done) (done ++ b ∷ []) b refl (append_assoc done (b ∷ []) text ∙ e)

-- commands, one after the other
record IsReadTo (q : PageReader) (bytes : List ℕ) (end : PageReader) : Type 0 where
  reads : fold (read no_widths) (Some q) bytes ≡ Some end
  between : IsBetween end

one-command : (c : Command) (q : PageReader) → IsBetween q → AreBytes (command_bytes c) → (t : (opcode : ℕ) × ((ops : List ℕ) × Spelled q c opcode ops)) → fold (read no_widths) (Some q) (command_bytes c) ≡ Some (behind c q)
one-command c q at are t =
    (λ i. fold (read no_widths) (Some (record q { begun = at.begun i })) (t.1.1.are i))
    ∙ command-read q c t.0 t.1.0 at.begun t.1.1 t.1.0 [] [] t.0 refl refl

commands-read : (commands : List Command) (q end : PageReader) → IsBetween q → AreBytes (commands_bytes commands) → Lead commands q end → IsReadTo q (commands_bytes commands) end
commands-read [] q end at are lead = record { reads = ap (λ (p : PageReader). Some p) lead; between = subst (λ (p : PageReader). IsBetween p) lead at }
commands-read (c ∷ commands) q end at are lead =
    let near : is_near (behind c q).now ≡ true = near-from (behind c q).now lead.1 in
    let first : AreBytes (command_bytes c) = left-bytes (command_bytes c) (commands_bytes commands) are in
    let later : IsReadTo (behind c q) (commands_bytes commands) end = commands-read commands (behind c q) end (between-next c q at lead.0 near) (right-bytes (command_bytes c) (commands_bytes commands) are) lead.2 in
    record {
      reads = fold-append (read no_widths) (Some q) (command_bytes c) (commands_bytes commands)
          ∙ ap (λ (o : Option PageReader). fold (read no_widths) o (commands_bytes commands)) (one-command c q at first (spelled c q at first lead.0 near)) ∙ later.reads;
      between = later.between;
    }

-- the fonts that they define
abbrev numbers_of : List FontDefinition → List ℕ
numbers_of fonts = map (λ (font : FontDefinition). font.number) fonts

record FontsAre (q x : PageReader) (fonts : List FontDefinition) : Type 0 where
  known : x.fonts.known ≡ q.fonts.known ++ numbers_of fonts
  defined : x.fonts.defined ≡ q.fonts.defined ++ fonts

same-fonts : (q x : PageReader) → x.fonts.known ≡ q.fonts.known → x.fonts.defined ≡ q.fonts.defined → FontsAre q x []
same-fonts q x known defined = record { known = known ∙ sym (append-nil q.fonts.known); defined = defined ∙ sym (append-nil q.fonts.defined) }

lettered-fonts : (code : ℕ) (chosen : Option ℕ) (q : PageReader) → FontsAre q (lettered code chosen q) []
lettered-fonts code None q = same-fonts q q refl refl
lettered-fonts code (Some font) q = same-fonts q (lettered code (Some font) q) refl refl

back-fonts : (stack : List Registers) (q : PageReader) → FontsAre q (taken_back stack q) []
back-fonts [] q = same-fonts q q refl refl
back-fonts (last ∷ others) q = same-fonts q (taken_back (last ∷ others) q) refl refl

command-fonts : (c : Command) (q : PageReader) → FontsAre q (behind c q) (defines c)
command-fonts (SetChar code) q = lettered-fonts code q.fonts.chosen q
command-fonts (Set1 code) q = lettered-fonts code q.fonts.chosen q
command-fonts (SetRule height width) q = same-fonts q (behind (SetRule height width) q) refl refl
command-fonts (PutRule height width) q = same-fonts q (behind (PutRule height width) q) refl refl
command-fonts Push q = same-fonts q (behind Push q) refl refl
command-fonts Pop q = back-fonts q.stack q
command-fonts (Right size) q = same-fonts q (behind (Right size) q) refl refl
command-fonts W0 q = same-fonts q (behind W0 q) refl refl
command-fonts (W size) q = same-fonts q (behind (W size) q) refl refl
command-fonts X0 q = same-fonts q (behind X0 q) refl refl
command-fonts (X size) q = same-fonts q (behind (X size) q) refl refl
command-fonts (Down size) q = same-fonts q (behind (Down size) q) refl refl
command-fonts Y0 q = same-fonts q (behind Y0 q) refl refl
command-fonts (Y size) q = same-fonts q (behind (Y size) q) refl refl
command-fonts Z0 q = same-fonts q (behind Z0 q) refl refl
command-fonts (Z size) q = same-fonts q (behind (Z size) q) refl refl
command-fonts (FntNum number) q = same-fonts q (behind (FntNum number) q) refl refl
command-fonts (Fnt1 number) q = same-fonts q (behind (Fnt1 number) q) refl refl
command-fonts (Xxx size special) q = same-fonts q (behind (Xxx size special) q) refl refl
command-fonts (FntDef1 font) q = record { known = refl; defined = refl }

commands-fonts : (commands : List Command) (q end : PageReader) → Lead commands q end → FontsAre q end (fonts_in commands)
commands-fonts [] q end lead = same-fonts q end (ap (λ (p : PageReader). p.fonts.known) (sym lead)) (ap (λ (p : PageReader). p.fonts.defined) (sym lead))
commands-fonts (c ∷ commands) q end lead =
    let first : FontsAre q (behind c q) (defines c) = command-fonts c q in
    let later : FontsAre (behind c q) end (fonts_in commands) = commands-fonts commands (behind c q) end lead.2 in
    record {
      known = later.known ∙ ap (λ (k : List ℕ). k ++ numbers_of (fonts_in commands)) first.known ∙ append_assoc q.fonts.known (numbers_of (defines c)) (numbers_of (fonts_in commands))
          ∙ ap (λ (k : List ℕ). q.fonts.known ++ k) (sym (map-append (λ (font : FontDefinition). font.number) (defines c) (fonts_in commands)));
      defined = later.defined ∙ ap (λ (f : List FontDefinition). f ++ fonts_in commands) first.defined ∙ append_assoc q.fonts.defined (defines c) (fonts_in commands);
    }

-- what a page means
page-meant : (known : List ℕ) (page : PageText) (read : ReadPage) → IsBetween (page_start known) → AreBytes (commands_bytes page.commands) → (is : IsPage known page read)
    → meaning no_widths known (commands_bytes page.commands) ≡ Some (record { placed = is.end.met; fonts = is.end.fonts.defined })
unfolding meaning
page-meant known page brought at are is =
    let t : IsReadTo (page_start known) (commands_bytes page.commands) is.end = commands-read page.commands (page_start known) is.end at are is.lead in
    ap (λ (o : Option PageReader). all_met o) t.reads
    ∙ (λ i. cond {A = Option Contents} (length (is.level i) + length (t.between.begun i) == 0) (Some (record { placed = is.end.met; fonts = is.end.fonts.defined })) None)

pages-meant : (known : List ℕ) (place : ℕ) (pointer : List ℕ) (pages : List PageText) (brought : List ReadPage) (rest : List (DviRule × List ℕ)) → AreBytes known → AreDistinct known → AreBytes (bytes_of (pages_elements place pointer pages ++ rest))
    → ArePages known pages brought → AreMeant known pages brought
pages-meant known place pointer [] [] rest known_bytes distinct bytes are = tt
pages-meant known place pointer [] (b ∷ brought) rest known_bytes distinct bytes are = absurd are
pages-meant known place pointer (page ∷ pages) [] rest known_bytes distinct bytes are = absurd are
pages-meant known place pointer (page ∷ pages) (b ∷ brought) rest known_bytes distinct bytes are =
    let later : List ℕ = bytes_of (pages_elements (place + page_long page) (pointer_to place) pages ++ rest) in
    let behind_bytes : AreBytes ((commands_bytes page.commands ++ 140 ∷ []) ++ later) = right-bytes (139 ∷ page.numbers ++ pointer) ((commands_bytes page.commands ++ 140 ∷ []) ++ later) bytes in
    let body_bytes : AreBytes (commands_bytes page.commands) = left-bytes (commands_bytes page.commands) (140 ∷ []) (left-bytes (commands_bytes page.commands ++ 140 ∷ []) later behind_bytes) in
    let is : IsPage known page b = are.0 in
    let at : IsBetween (page_start known) = record { begun = refl; near = refl; known = known_bytes; distinct = distinct } in
    let t : IsReadTo (page_start known) (commands_bytes page.commands) is.end = commands-read page.commands (page_start known) is.end at body_bytes is.lead in
    let fonts : FontsAre (page_start known) is.end (fonts_in page.commands) = commands-fonts page.commands (page_start known) is.end is.lead in
    let same : is.end.fonts.known ≡ known ++ numbers_of is.end.fonts.defined = fonts.known ∙ (λ i. known ++ numbers_of (sym fonts.defined i)) in
    let placed : b.placed ≡ is.end.met = ap (λ (r : ReadPage). r.placed) is.brings in (
      record { placed = is.end.met; fonts = is.end.fonts.defined },
      page-meant known page b at body_bytes is,
      placed,
      subst (λ (k : List ℕ). AreMeant k pages brought) same
          (pages-meant is.end.fonts.known (place + page_long page) (pointer_to place) pages brought rest t.between.known t.between.distinct (right-bytes (commands_bytes page.commands ++ 140 ∷ []) later behind_bytes) are.1),
    )

pub file-meant : (bytes : List ℕ) (file : FileText) (pages : List ReadPage) → IsTextOf bytes file pages → AreMeant [] file.pages pages
file-meant bytes file pages is =
    let start : ℕ = length (preamble_bytes file) in
    let rest : List (DviRule × List ℕ) = last_elements (end_of start file.pages) (last_pointer start nowhere file.pages) file in
    let all : AreBytes (preamble_bytes file ++ bytes_of (pages_elements start nowhere file.pages ++ rest)) = subst (λ (xs : List ℕ). AreBytes xs) is.written is.are_bytes in
    pages-meant [] start nowhere file.pages pages rest tt tt (right-bytes (preamble_bytes file) (bytes_of (pages_elements start nowhere file.pages ++ rest)) all) is.are_pages
