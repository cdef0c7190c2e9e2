-- Commands that may stand on a page are read, one after the other.
use Rattle.std.proofs.Common.{◌≡◌, ℕ, suc, ◌+◌, ◌<◌, ◌≤◌, ◌==◌, ◌&&◌, not, nat_le, true, false, cond, ◌+ℤ◌, List, [], ◌∷◌, ◌++◌, length, get_or, drop, map, Option, Some, None, refl, sym, ap, ◌∙◌, subst, arith, length-append, append_assoc}
use Rattle.std.proofs.lemmas.Bool.{and_parts, le-leb, lt-leb}
use Rattle.std.proofs.lemmas.List.{append-nil, map-append}
use Rattle.tx_dvi.specs.declared.font.FontDefinition.{FontDefinition}
use Rattle.tx_dvi.specs.declared.placed.Registers.{Registers}
use Rattle.tx_dvi.specs.Dvi.{definition_bytes}
use Rattle.tx_dvi.specs.Meaning.{Reader as PageReader, carried_out, signed}
use Rattle.tx_dvitype.specs.declared.error.DviRule.TheVariants as element
use Rattle.tx_dvitype.specs.declared.reader.Reader.{Reader}
use Rattle.tx_dvitype.specs.Files.{taken, with_definition}
use Rattle.tx_dvitype.specs.Grammar.{Command, SetChar, Set1, SetRule, PutRule, Push, Pop, Right, W0, W, X0, X, Down, Y0, Y, Z0, Z, FntNum, Fnt1, Xxx, FntDef1, AreBytes, MayStand, Lead, behind, command_bytes, commands_bytes, defines, fonts_in, lettered, taken_back}
use Rattle.tx_dvitype.specs.Partial.{no_widths, is_within, is_near, kept_near, carried_near, gathered, may_begin, read_within, wanted, past}
use Rattle.tx_dvitype.proofs.Amounts.{near-from}
use Rattle.tx_dvitype.proofs.Defining.{behind_def, spelled-fnt_def1}
use Rattle.tx_dvitype.proofs.Numbers.{AreDistinct, distinct-push, room-left}
use Rattle.tx_dvitype.proofs.ReadEnd.{at_byte}
use Rattle.tx_dvitype.proofs.ReadPages.{byte-goes}
use Rattle.tx_dvitype.proofs.Spelling.{Spelled, spelled-set_char, spelled-set1, spelled-set_rule, spelled-put_rule, spelled-push, spelled-pop, spelled-right, spelled-w0, spelled-w, spelled-x0, spelled-x, spelled-down, spelled-y0, spelled-y, spelled-z0, spelled-z, spelled-fnt_num, spelled-fnt1, spelled-xxx}
use Rattle.tx_dvitype.proofs.Steps.{Within, gathers, gathered_to, two-steps}

-- the parts of some bytes are bytes
pub left-bytes : (xs ys : List ℕ) → AreBytes (xs ++ ys) → AreBytes xs
left-bytes [] ys are = tt
left-bytes (x ∷ xs) ys are = (are.0, left-bytes xs ys are.1)

pub right-bytes : (xs ys : List ℕ) → AreBytes (xs ++ ys) → AreBytes ys
right-bytes [] ys are = are
right-bytes (x ∷ xs) ys are = right-bytes xs ys are.1

-- between two commands of a page
pub record IsBetween (q : PageReader) : Type 0 where
  pub begun : q.begun ≡ []
  pub near : is_near q.now ≡ true
  pub known : AreBytes q.fonts.known
  pub distinct : AreDistinct q.fonts.known

-- a command that may stand there
pub spelled : (c : Command) (q : PageReader) → IsBetween q → AreBytes (command_bytes c) → MayStand c q → is_near (behind c q).now ≡ true → (opcode : ℕ) × ((ops : List ℕ) × Spelled q c opcode ops)
spelled (SetChar code) q at are may near = (code, ([], spelled-set_char q code may.0 may.1))
spelled (Set1 code) q at are may near = (128, (code ∷ [], spelled-set1 q code may))
spelled (SetRule height width) q at are may near =
    let there : is_within (q.now.h +ℤ signed (length width) width) ≡ true = (and_parts (is_within (q.now.h +ℤ signed (length width) width)) (is_within q.now.v) near).0 in (
      132,
      (
        height ++ width,
        spelled-set_rule q height width may.0 may.1 (right-bytes height width are.1) (and_parts (is_within q.now.h) (is_within q.now.v) at.near).0
            (subst (λ (n : ℕ). is_within (q.now.h +ℤ signed n width) ≡ true) may.1 there),
      ),
    )
spelled (PutRule height width) q at are may near = (137, (height ++ width, spelled-put_rule q height width may.0 may.1))
spelled Push q at are may near = (141, ([], spelled-push q))
spelled Pop q at are may near = (142, ([], spelled-pop q may))
spelled (Right size) q at are may near = (142 + length size, (size, spelled-right q size may are.1 (and_parts (is_within q.now.h) (is_within q.now.v) at.near).0 (and_parts (is_within (behind (Right size) q).now.h) (is_within q.now.v) near).0))
spelled W0 q at are may near = (147, ([], spelled-w0 q))
spelled (W size) q at are may near = (147 + length size, (size, spelled-w q size may are.1 (and_parts (is_within q.now.h) (is_within q.now.v) at.near).0 (and_parts (is_within (behind (W size) q).now.h) (is_within q.now.v) near).0))
spelled X0 q at are may near = (152, ([], spelled-x0 q))
spelled (X size) q at are may near = (152 + length size, (size, spelled-x q size may are.1 (and_parts (is_within q.now.h) (is_within q.now.v) at.near).0 (and_parts (is_within (behind (X size) q).now.h) (is_within q.now.v) near).0))
spelled (Down size) q at are may near = (156 + length size, (size, spelled-down q size may are.1 (and_parts (is_within q.now.h) (is_within q.now.v) at.near).1 (and_parts (is_within q.now.h) (is_within (behind (Down size) q).now.v) near).1))
spelled Y0 q at are may near = (161, ([], spelled-y0 q))
spelled (Y size) q at are may near = (161 + length size, (size, spelled-y q size may are.1 (and_parts (is_within q.now.h) (is_within q.now.v) at.near).1 (and_parts (is_within q.now.h) (is_within (behind (Y size) q).now.v) near).1))
spelled Z0 q at are may near = (166, ([], spelled-z0 q))
spelled (Z size) q at are may near = (166 + length size, (size, spelled-z q size may are.1 (and_parts (is_within q.now.h) (is_within q.now.v) at.near).1 (and_parts (is_within q.now.h) (is_within (behind (Z size) q).now.v) near).1))
spelled (FntNum number) q at are may near = (171 + number, ([], spelled-fnt_num q number may.0 may.1))
spelled (Fnt1 number) q at are may near = (235, (number ∷ [], spelled-fnt1 q number may))
spelled (Xxx size special) q at are may near = (238 + length size, (size ++ special, spelled-xxx q size special may.0 may.1))
spelled (FntDef1 font) q at are may near =
    (243, (behind_def font, spelled-fnt_def1 q font may.1 (room-left font.number q.fonts.known may.0.number may.1 at.known at.distinct) may.0))

-- the bytes that were gathered of a command
front-is : (xs text : List ℕ) (o : ℕ) (ops : List ℕ) → 0 < length xs → xs ++ text ≡ o ∷ ops → (xs ≡ o ∷ drop 1 xs) × (drop 1 xs ++ text ≡ ops)
front-is [] text o ops some e = absurd (omega (arith, some))
front-is (x ∷ xs) text o ops some e =
    ((λ i. ap (λ (ys : List ℕ). get_or ys 0 0) e i ∷ xs), ap (λ (ys : List ℕ). drop 1 ys) e)

module _ (p : PageReader) (c : Command) (opcode : ℕ) (ops : List ℕ) (at : IsBetween p) (s : Spelled p c opcode ops) (near : is_near (behind c p).now ≡ true) where
  -- a byte before the last one
  part-read : (pre done text : List ℕ) (byte : ℕ) → pre ++ byte ∷ [] ≡ opcode ∷ done → done ++ text ≡ ops → 0 < length text → read_within (record p { begun = pre }) byte ≡ Some (record p { begun = pre ++ byte ∷ [] })
  unfolding read_within
  part-read pre done text byte is e some =
      let may : may_begin opcode done (record p { begun = opcode ∷ done }) ≡ true = s.begins done text e in
      let more : (m : ℕ) × (wanted (opcode ∷ done) ≡ Some m) × (suc (length done) ≤ m) = more-so text e some in
      let fits : nat_le (suc (length done)) more.0 ≡ true = le-leb (suc (length done)) more.0 more.2 in
      (λ i. cond {A = Option PageReader} (may_begin (get_or (is i) 0 0) (drop 1 (is i)) (record p { begun = is i })) (gathered (wanted (is i)) (is i) (record p { begun = pre })) None)
      ∙ (λ i. cond {A = Option PageReader} (may i) (gathered (more.1 i) (opcode ∷ done) (record p { begun = pre })) None)
      ∙ (λ i. cond {A = Option PageReader} (fits i) (cond {A = Option PageReader} (at.near i) (Some (record p { begun = opcode ∷ done })) None) (carried_near opcode done (record p { begun = [] })))
      ∙ (λ i. Some (record p { begun = sym is i }))
    where
      more-so : (rest : List ℕ) → done ++ rest ≡ ops → 0 < length rest → (m : ℕ) × (wanted (opcode ∷ done) ≡ Some m) × (suc (length done) ≤ m)
      more-so [] f none = absurd (omega (arith, none))
      more-so (b ∷ rest) f more = s.parts done rest b f

  -- and the last
  last-read : (pre : List ℕ) (byte : ℕ) → pre ++ byte ∷ [] ≡ opcode ∷ ops → read_within (record p { begun = pre }) byte ≡ Some (behind c p)
  unfolding read_within carried_near
  last-read pre byte is =
      let may : may_begin opcode ops (record p { begun = opcode ∷ ops }) ≡ true = s.begins ops [] (append-nil ops) in
      let past : nat_le (suc (length ops)) (length ops) ≡ false = lt-leb (suc (length ops)) (length ops) (omega arith) in
      (λ i. cond {A = Option PageReader} (may_begin (get_or (is i) 0 0) (drop 1 (is i)) (record p { begun = is i })) (gathered (wanted (is i)) (is i) (record p { begun = pre })) None)
      ∙ (λ i. cond {A = Option PageReader} (may i) (gathered (s.whole i) (opcode ∷ ops) (record p { begun = pre })) None)
      ∙ (λ i. cond {A = Option PageReader} (past i) (kept_near (Some (record p { begun = opcode ∷ ops }))) (kept_near (carried_out no_widths opcode ops (record p { begun = sym at.begun i }))))
      ∙ (λ i. kept_near (s.carried i))
      ∙ (λ i. cond {A = Option PageReader} (near i) (Some (behind c p)) None)

  -- a definition is kept once it is whole
  part-kept : (pre done text : List ℕ) (byte : ℕ) → pre ++ byte ∷ [] ≡ opcode ∷ done → done ++ text ≡ ops → 0 < length text → (ds : List (List ℕ)) → with_definition (pre ++ byte ∷ []) ds ≡ ds
  part-kept pre done [] byte is e some ds = absurd (omega (arith, some))
  part-kept pre done (b ∷ text) byte is e some ds =
      let more : (m : ℕ) × (wanted (opcode ∷ done) ≡ Some m) × (suc (length done) ≤ m) = s.parts done text b e in
      let fits : nat_le (suc (length done)) more.0 ≡ true = le-leb (suc (length done)) more.0 more.2 in
      (λ i. with_definition (is i) ds)
      ∙ (λ i. cond {A = List (List ℕ)} (past (more.1 i) (opcode ∷ done) && opcode == 243) (ds ++ (opcode ∷ done) ∷ []) ds)
      ∙ (λ i. cond {A = List (List ℕ)} (not (fits i) && opcode == 243) (ds ++ (opcode ∷ done) ∷ []) ds)

-- the reader of a file behind commands
abbrev pub behind_commands : Reader → PageReader → List FontDefinition → Reader
behind_commands r q fonts = record r { page = q; definitions = r.definitions ++ map definition_bytes fonts }

pub command-within : (place : ℕ) (r : Reader) (c : Command) → r.element ≡ element.Command → IsBetween r.page → AreBytes (command_bytes c) → MayStand c r.page → is_near (behind c r.page).now ≡ true
    → Within element.Command place r (command_bytes c) (behind_commands r (behind c r.page) (defines c))
command-within place r c at_element at are may near =
    subst (λ (bytes : List ℕ). Within element.Command place r bytes end) (sym s.are)
    (subst (λ (start : Reader). Within element.Command place start (opcode ∷ ops) end) (λ i. record r { page = record r.page { begun = sym at.begun i } })
    (subst (λ (n : ℕ). Within element.Command n (at_byte r []) (opcode ∷ ops) end) (let n : place + 0 ≡ place = omega arith in n)
    (gathers element.Command r end (opcode ∷ ops) place at_element goes [] (opcode ∷ ops) refl (omega arith))))
  where
    t : (opcode : ℕ) × ((ops : List ℕ) × Spelled r.page c opcode ops)
    t = spelled c r.page at are may near

    opcode : ℕ
    opcode = t.0

    ops : List ℕ
    ops = t.1.0

    s : Spelled r.page c t.0 t.1.0
    s = t.1.1

    end : Reader
    end = behind_commands r (behind c r.page) (defines c)

    goes : (done text : List ℕ) (byte : ℕ) → done ++ byte ∷ text ≡ t.0 ∷ t.1.0 → taken (place + length done) (at_byte r done) byte ≡ Some (gathered_to element.Command r (behind_commands r (behind c r.page) (defines c)) (t.0 ∷ t.1.0) place text (done ++ byte ∷ []))
    goes done [] byte e =
        byte-goes (place + length done) (at_byte r done) (behind c r.page) byte at_element (last-read r.page c t.0 t.1.0 at s near done byte e)
        ∙ (λ i. Some (record r { page = behind c r.page; definitions = (ap (λ (bytes : List ℕ). with_definition bytes r.definitions) e ∙ s.defined r.definitions) i }))
    goes done (b ∷ text) byte e =
        let long = length-append done (byte ∷ []) in
        let f = front-is (done ++ byte ∷ []) (b ∷ text) t.0 t.1.0 (omega (arith, long)) (append_assoc done (byte ∷ []) (b ∷ text) ∙ e) in
        byte-goes (place + length done) (at_byte r done) (record r.page { begun = done ++ byte ∷ [] }) byte at_element
        (part-read r.page c t.0 t.1.0 at s near done (drop 1 (done ++ byte ∷ [])) (b ∷ text) byte f.0 f.1 (omega arith))
        ∙ (λ i. Some (record r { page = record r.page { begun = done ++ byte ∷ [] }; definitions = part-kept r.page c t.0 t.1.0 at s near done (drop 1 (done ++ byte ∷ [])) (b ∷ text) byte f.0 f.1 (omega arith) r.definitions i }))

-- what a command leaves
lettered-keeps : {P : PageReader → Type 0} (code : ℕ) (chosen : Option ℕ) (q : PageReader) → ((x : PageReader) → x.begun ≡ q.begun → x.fonts.known ≡ q.fonts.known → P x) → P (lettered code chosen q)
lettered-keeps code None q goes = goes q refl refl
lettered-keeps code (Some font) q goes = goes (lettered code (Some font) q) refl refl

back-keeps : {P : PageReader → Type 0} (stack : List Registers) (q : PageReader) → ((x : PageReader) → x.begun ≡ q.begun → x.fonts.known ≡ q.fonts.known → P x) → P (taken_back stack q)
back-keeps [] q goes = goes q refl refl
back-keeps (last ∷ others) q goes = goes (taken_back (last ∷ others) q) refl refl

-- the state but for where it is
record Keeps (q x : PageReader) : Type 0 where
  begun : x.begun ≡ []
  known : AreBytes x.fonts.known
  distinct : AreDistinct x.fonts.known

keeps : (q x : PageReader) → IsBetween q → x.begun ≡ q.begun → x.fonts.known ≡ q.fonts.known → Keeps q x
keeps q x at begun known = record {
  begun = begun ∙ at.begun;
  known = subst (λ (k : List ℕ). AreBytes k) (sym known) at.known;
  distinct = subst (λ (k : List ℕ). AreDistinct k) (sym known) at.distinct;
}

bytes-push : (xs : List ℕ) (x : ℕ) → AreBytes xs → x < 256 → AreBytes (xs ++ x ∷ [])
bytes-push [] x are small = (small, tt)
bytes-push (y ∷ xs) x are small = (are.0, bytes-push xs x are.1 small)

kept : (c : Command) (q : PageReader) → IsBetween q → MayStand c q → Keeps q (behind c q)
kept (SetChar code) q at may = lettered-keeps {P = Keeps q} code q.fonts.chosen q (λ x b k. keeps q x at b k)
kept (Set1 code) q at may = lettered-keeps {P = Keeps q} code q.fonts.chosen q (λ x b k. keeps q x at b k)
kept (SetRule height width) q at may = keeps q (behind (SetRule height width) q) at refl refl
kept (PutRule height width) q at may = keeps q (behind (PutRule height width) q) at refl refl
kept Push q at may = keeps q (behind Push q) at refl refl
kept Pop q at may = back-keeps {P = Keeps q} q.stack q (λ x b k. keeps q x at b k)
kept (Right size) q at may = keeps q (behind (Right size) q) at refl refl
kept W0 q at may = keeps q (behind W0 q) at refl refl
kept (W size) q at may = keeps q (behind (W size) q) at refl refl
kept X0 q at may = keeps q (behind X0 q) at refl refl
kept (X size) q at may = keeps q (behind (X size) q) at refl refl
kept (Down size) q at may = keeps q (behind (Down size) q) at refl refl
kept Y0 q at may = keeps q (behind Y0 q) at refl refl
kept (Y size) q at may = keeps q (behind (Y size) q) at refl refl
kept Z0 q at may = keeps q (behind Z0 q) at refl refl
kept (Z size) q at may = keeps q (behind (Z size) q) at refl refl
kept (FntNum number) q at may = keeps q (behind (FntNum number) q) at refl refl
kept (Fnt1 number) q at may = keeps q (behind (Fnt1 number) q) at refl refl
kept (Xxx size special) q at may = keeps q (behind (Xxx size special) q) at refl refl
kept (FntDef1 font) q at may = record { begun = at.begun; known = bytes-push q.fonts.known font.number at.known may.0.number; distinct = distinct-push font.number q.fonts.known may.1 at.distinct }

pub between-next : (c : Command) (q : PageReader) → IsBetween q → MayStand c q → is_near (behind c q).now ≡ true → IsBetween (behind c q)
between-next c q at may near = let k : Keeps q (behind c q) = kept c q at may in record { begun = k.begun; near = near; known = k.known; distinct = k.distinct }

-- one after the other
pub record AreRead (place : ℕ) (r : Reader) (bytes : List ℕ) (q : PageReader) (fonts : List FontDefinition) : Type 0 where
  pub steps : Within element.Command place r bytes (behind_commands r q fonts)
  pub between : IsBetween q

pub commands-within : (place : ℕ) (r : Reader) (commands : List Command) (end : PageReader) → r.element ≡ element.Command → IsBetween r.page → AreBytes (commands_bytes commands) → Lead commands r.page end → AreRead place r (commands_bytes commands) end (fonts_in commands)
commands-within place r [] end at_element at are lead = record {
  steps = (refl, (λ i. record r { page = lead i; definitions = sym (append-nil r.definitions) i }));
  between = subst (λ (q : PageReader). IsBetween q) lead at;
}
commands-within place r (c ∷ commands) end at_element at are lead =
    let near : is_near (behind c r.page).now ≡ true = near-from (behind c r.page).now lead.1 in
    let middle : Reader = behind_commands r (behind c r.page) (defines c) in
    let first = command-within place r c at_element at (left-bytes (command_bytes c) (commands_bytes commands) are) lead.0 near in
    let others : AreRead (place + length (command_bytes c)) middle (commands_bytes commands) end (fonts_in commands)
    = commands-within (place + length (command_bytes c)) middle commands end at_element (between-next c r.page at lead.0 near) (right-bytes (command_bytes c) (commands_bytes commands) are) lead.2 in
    let fonts : (r.definitions ++ map definition_bytes (defines c)) ++ map definition_bytes (fonts_in commands) ≡ r.definitions ++ map definition_bytes (defines c ++ fonts_in commands)
    = append_assoc r.definitions (map definition_bytes (defines c)) (map definition_bytes (fonts_in commands)) ∙ ap (λ ds. r.definitions ++ ds) (sym (map-append definition_bytes (defines c) (fonts_in commands))) in
    record {
      steps = two-steps place r middle (behind_commands r end (defines c ++ fonts_in commands)) (command_bytes c) (commands_bytes commands) element.Command first
          (subst (λ (ds : List (List ℕ)). Within element.Command (place + length (command_bytes c)) middle (commands_bytes commands) (record r { page = end; definitions = ds })) fonts others.steps);
      between = others.between;
    }
