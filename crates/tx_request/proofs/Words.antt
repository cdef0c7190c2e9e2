-- Reading the word that begins a request.
use Rattle.std.proofs.Common.{◌≡◌, ℕ, Bool, true, false, cond, eqb, List, [], ◌∷◌, ◌++◌, length, drop, get_or, refl, sym, ap, subst, ◌∙◌, append_assoc, true≢false, arith, ◌⊎◌, inl, inr}
use Rattle.std.specs.Prelude.{Result, Ok, Err, codes, nat_eq}
use Rattle.std.specs.List.{starts_with}
use Rattle.std.proofs.lemmas.Bool.{eqb-false}
use Rattle.std.proofs.lemmas.Bool.Decides.{Decides-eqb}
use Rattle.std.proofs.lemmas.List.{append_cancel_left}
use Rattle.std.proofs.lemmas.Slice.Eq.{starts_is}
use Rattle.tx_script.specs.declared.element.CommandWord.{CommandWord}
use Rattle.tx_script.specs.declared.element.CommandWord.TheVariants as commands
use Rattle.tx_script.specs.declared.error.Broken.{Broken}
use Rattle.tx_script.specs.declared.error.Rule.TheVariants.{Word}
use Rattle.tx_script.specs.Reading.{Read, ◌>>=◌, begins_with, literal_at, word_at}
use Rattle.tx_script.proofs.Parts.{two_fronts}
use Rattle.tx_script.proofs.Forms.{Reads, of_element, failed, ok_is, err_is, ok_or_err}
use Rattle.tx_script.proofs.Literals.{literal_takes, literal_again, literal_breaks}
use Rattle.tx_script.proofs.Repeats.{bind_assoc}
use Rattle.tx_script.proofs.Words.{begins, begins-not}
use Rattle.tx_script.proofs.Commands.{word_text as command_text}
use Rattle.tx_request.specs.declared.head.RequestWord.{RequestWord}
use Rattle.tx_request.specs.declared.head.RequestWord.TheVariants as words
use Rattle.tx_request.specs.Reading.{request_word_at}

-- A word is told from the one that is tried: the two share a front, and the bytes don't go on behind it as the word does.
record Apart (word tried bytes : List ℕ) : Type 0 where
  shared : List ℕ
  letter : ℕ
  others : List ℕ
  rest : List ℕ
  word_is : word ≡ shared ++ letter ∷ others
  tried_is : tried ≡ shared ++ rest
  not : (more : List ℕ) → bytes ≡ shared ++ letter ∷ more → ⊥

-- so the bytes don't begin with it
absent : (word tried bytes : List ℕ) → Apart word tried bytes → (rest : List ℕ) → bytes ≡ word ++ rest → ⊥
absent word tried bytes a rest e = a.not (a.others ++ rest) (e ∙ ap (λ (x : List ℕ). x ++ rest) a.word_is ∙ append_assoc a.shared (a.letter ∷ a.others) rest)

-- and as far as they go on as it does, the one that is tried does so
covered : (word tried bytes : List ℕ) → Apart word tried bytes → (front : List ℕ) (c : ℕ) (after more : List ℕ)
    → bytes ≡ front ++ c ∷ more → word ≡ front ++ c ∷ after → (m : List ℕ) × (tried ≡ front ++ c ∷ m)
covered word tried bytes a front c after more is goes =
    elim (two_fronts a.shared (a.letter ∷ a.others) front c after (sym a.word_is ∙ goes)) [
      | inl m ↦ (m.0 ++ a.rest, a.tried_is ∙ ap (λ (x : List ℕ). x ++ a.rest) m.1 ∙ append_assoc front (c ∷ m.0) a.rest)
      | inr m ↦ absurd (past m.0 m.1 (append_cancel_left a.shared (a.letter ∷ a.others) (m.0 ++ c ∷ after) (sym a.word_is ∙ goes ∙ ap (λ (x : List ℕ). x ++ c ∷ after) m.1 ∙ append_assoc a.shared m.0 (c ∷ after))))
    ]
  where
    past : (m : List ℕ) → front ≡ a.shared ++ m → a.letter ∷ a.others ≡ m ++ c ∷ after → ⊥
    past [] at e =
        let same : c ≡ a.letter = cc in
        a.not more (is ∙ ap (λ (x : List ℕ). x ++ c ∷ more) at ∙ append_assoc a.shared [] (c ∷ more) ∙ ap (λ (x : ℕ). a.shared ++ x ∷ more) same)
    past (x ∷ m) at e =
        let same : x ≡ a.letter = cc in
        a.not (m ++ c ∷ more) (is ∙ ap (λ (y : List ℕ). y ++ c ∷ more) at ∙ append_assoc a.shared (x ∷ m) (c ∷ more) ∙ ap (λ (y : ℕ). a.shared ++ y ∷ (m ++ c ∷ more)) same)

-- one word, where the bytes tell all others from it
tried_word : {W : Type 0} (word_text : W → List ℕ) (w : W) (bytes : List ℕ) → ((v : W) → (v ≡ w) ⊎ Apart (word_text v) (word_text w) bytes)
    → Reads (λ v. Unit {0}) (λ v. (Word, word_text v) ∷ []) bytes (literal_at Word (word_text w) bytes >>= λ rest. Ok (w, rest))
tried_word {W} word_text w bytes other = go (literal_at Word (word_text w) bytes) refl
  where
    its : (v : W) (rest : List ℕ) → bytes ≡ word_text v ++ rest → v ≡ w
    its v rest e = elim (other v) [ inl same ↦ same | inr a ↦ absurd (absent (word_text v) (word_text w) bytes a rest e) ]

    go : (x : Result (List ℕ) Broken) → literal_at Word (word_text w) bytes ≡ x → Reads (λ v. Unit {0}) (λ v. (Word, word_text v) ∷ []) bytes (x >>= λ rest. Ok (w, rest))
    go (Ok x) e = of_element (λ v. Unit {0}) word_text Word bytes (Ok (w, x))
        (λ v rest h.
        let same = ok_is {A = W × List ℕ} (w, x) (v, rest) h in
        (tt, literal_takes Word (word_text w) bytes x e ∙ ap (λ (z : W × List ℕ). word_text z.0 ++ z.1) same))
        (λ v rest fits h.
        let is = its v rest h in
        let same = ok_is x rest (sym e ∙ literal_again Word (word_text w) bytes rest (h ∙ ap (λ (z : W). word_text z ++ rest) is)) in
        λ i. Ok (sym is i, same i))
        (λ b h. absurd (ok_or_err {A = W × List ℕ} (w, x) b h))
    go (Err d) e = of_element (λ v. Unit {0}) word_text Word bytes (Err d)
        (λ v rest h. absurd (ok_or_err {A = W × List ℕ} (v, rest) d (sym h)))
        (λ v rest fits h.
        let is = its v rest h in
        absurd (ok_or_err rest d (sym (literal_again Word (word_text w) bytes rest (h ∙ ap (λ (z : W). word_text z ++ rest) is)) ∙ e)))
        (λ b h.
        let k = literal_breaks Word (word_text w) bytes b (e ∙ ap (λ (z : Broken). failed {A = List ℕ} z) (err_is {A = W × List ℕ} d b h)) in
        record {
          read = k.read;
          rest = k.rest;
          split = k.split;
          left = k.left;
          rule_is = k.rule_is;
          whose = w;
          more = k.more;
          fits = tt;
          begins = k.begins;
          none = λ v c after others fits is eq.
              elim (other v) [
                | inl same ↦ k.none c after others is (ap word_text (sym same) ∙ eq)
                | inr a ↦
                    let m = covered (word_text v) (word_text w) bytes a k.read c after others (k.split ∙ ap (λ (x : List ℕ). k.read ++ x) is) eq in
                    k.none c m.0 others is m.1
              ];
        })

-- a request's word and a space, or LF
abbrev pub word_text : RequestWord → List ℕ
word_text (words.Command w) = command_text w
word_text words.File = codes "file "
word_text words.Page = codes "page "
word_text words.Log = codes "log\n"
word_text words.LogOf = codes "log "

-- its first letter
abbrev letter : RequestWord → ℕ
letter (words.Command commands.Edit) = 101
letter (words.Command commands.Remove) = 114
letter (words.Command commands.Batch) = 98
letter (words.Command commands.Save) = 115
letter (words.Command commands.Locate) = 108
letter words.File = 102
letter words.Page = 112
letter words.Log = 108
letter words.LogOf = 108

parted : (v : RequestWord) → word_text v ≡ letter v ∷ drop 1 (word_text v)
parted (words.Command commands.Edit) = refl
parted (words.Command commands.Remove) = refl
parted (words.Command commands.Batch) = refl
parted (words.Command commands.Save) = refl
parted (words.Command commands.Locate) = refl
parted words.File = refl
parted words.Page = refl
parted words.Log = refl
parted words.LogOf = refl

-- words that begin with another letter than the bytes
by_letter : (v : RequestWord) (tried bytes : List ℕ) → (get_or bytes 0 0 ≡ letter v → ⊥) → Apart (word_text v) tried bytes
by_letter v tried bytes not = record {
  shared = [];
  letter = letter v;
  others = drop 1 (word_text v);
  rest = tried;
  word_is = parted v;
  tried_is = refl;
  not = λ more e. not (ap (λ (x : List ℕ). get_or x 0 0) e);
}

-- where the one that is tried begins as the bytes do
other_letter : (v w : RequestWord) (bytes : List ℕ) → get_or bytes 0 0 ≡ letter w → eqb (letter v) (letter w) ≡ false → Apart (word_text v) (word_text w) bytes
other_letter v w bytes first other = by_letter v (word_text w) bytes (λ e. eqb-false (letter v) (letter w) other (sym e ∙ first))

-- where it alone begins so
alone : (w : RequestWord) (bytes : List ℕ) → ((v : RequestWord) → (v ≡ w) ⊎ (eqb (letter v) (letter w) ≡ false)) → get_or bytes 0 0 ≡ letter w
    → Reads (λ v. Unit {0}) (λ v. (Word, word_text v) ∷ []) bytes (literal_at Word (word_text w) bytes >>= λ rest. Ok (w, rest))
alone w bytes only first = tried_word word_text w bytes (λ v. elim (only v) [ inl same ↦ inl same | inr other ↦ inr (other_letter v w bytes first other) ])

only_file : (v : RequestWord) → (v ≡ words.File) ⊎ (eqb (letter v) 102 ≡ false)
only_file words.File = inl refl
only_file (words.Command commands.Edit) = inr refl
only_file _ = inr refl

only_page : (v : RequestWord) → (v ≡ words.Page) ⊎ (eqb (letter v) 112 ≡ false)
only_page words.Page = inl refl
only_page (words.Command commands.Edit) = inr refl
only_page _ = inr refl

only_save : (v : RequestWord) → (v ≡ words.Command commands.Save) ⊎ (eqb (letter v) 115 ≡ false)
only_save (words.Command commands.Save) = inl refl
only_save _ = inr refl

only_batch : (v : RequestWord) → (v ≡ words.Command commands.Batch) ⊎ (eqb (letter v) 98 ≡ false)
only_batch (words.Command commands.Batch) = inl refl
only_batch _ = inr refl

only_remove : (v : RequestWord) → (v ≡ words.Command commands.Remove) ⊎ (eqb (letter v) 114 ≡ false)
only_remove (words.Command commands.Remove) = inl refl
only_remove _ = inr refl

-- bytes that begin with a text, and bytes that don't
starts : (text bytes : List ℕ) → starts_with nat_eq bytes text ≡ true → bytes ≡ text ++ drop (length text) bytes
starts text bytes e = (starts_is Decides-eqb bytes text (starts_with nat_eq bytes text) refl).0 e

starts-not : (text bytes : List ℕ) → starts_with nat_eq bytes text ≡ false → (more : List ℕ) → bytes ≡ text ++ more → ⊥
starts-not text bytes e more is = true≢false (sym ((starts_is Decides-eqb bytes text (starts_with nat_eq bytes text) refl).1 more is) ∙ e)

-- the words that begin with l: "log" and LF
is_log : (bytes : List ℕ) → starts_with nat_eq bytes (codes "log\n") ≡ true → (v : RequestWord) → (v ≡ words.Log) ⊎ Apart (word_text v) (word_text words.Log) bytes
is_log bytes is words.Log = inl refl
is_log bytes is words.LogOf = inr (record {
  shared = codes "log";
  letter = 32;
  others = [];
  rest = 10 ∷ [];
  word_is = refl;
  tried_is = refl;
  not = λ more e. let one : 10 ≡ 32 = ap (λ (x : List ℕ). get_or x 3 0) (sym (starts (codes "log\n") bytes is) ∙ e) in absurd (omega arith);
})
is_log bytes is (words.Command commands.Locate) = inr (record {
  shared = codes "lo";
  letter = 99;
  others = codes "ate ";
  rest = codes "g\n";
  word_is = refl;
  tried_is = refl;
  not = λ more e. let one : 103 ≡ 99 = ap (λ (x : List ℕ). get_or x 2 0) (sym (starts (codes "log\n") bytes is) ∙ e) in absurd (omega arith);
})
is_log bytes is v = inr (other_letter v words.Log bytes (ap (λ (x : List ℕ). get_or x 0 0) (starts (codes "log\n") bytes is)) refl)

-- "log" and a space
is_log_of : (bytes : List ℕ) → starts_with nat_eq bytes (codes "log\n") ≡ false → starts_with nat_eq bytes (codes "log") ≡ true
    → (v : RequestWord) → (v ≡ words.LogOf) ⊎ Apart (word_text v) (word_text words.LogOf) bytes
is_log_of bytes whole is words.LogOf = inl refl
is_log_of bytes whole is words.Log = inr (record {
  shared = codes "log";
  letter = 10;
  others = [];
  rest = 32 ∷ [];
  word_is = refl;
  tried_is = refl;
  not = λ more e. starts-not (codes "log\n") bytes whole more e;
})
is_log_of bytes whole is (words.Command commands.Locate) = inr (record {
  shared = codes "lo";
  letter = 99;
  others = codes "ate ";
  rest = codes "g ";
  word_is = refl;
  tried_is = refl;
  not = λ more e. let one : 103 ≡ 99 = ap (λ (x : List ℕ). get_or x 2 0) (sym (starts (codes "log") bytes is) ∙ e) in absurd (omega arith);
})
is_log_of bytes whole is v = inr (other_letter v words.LogOf bytes (ap (λ (x : List ℕ). get_or x 0 0) (starts (codes "log") bytes is)) refl)

-- "locate "
is_locate : (bytes : List ℕ) → starts_with nat_eq bytes (codes "log") ≡ false → get_or bytes 0 0 ≡ 108
    → (v : RequestWord) → (v ≡ words.Command commands.Locate) ⊎ Apart (word_text v) (word_text (words.Command commands.Locate)) bytes
is_locate bytes not first (words.Command commands.Locate) = inl refl
is_locate bytes not first words.Log = inr (record {
  shared = codes "lo";
  letter = 103;
  others = 10 ∷ [];
  rest = codes "cate ";
  word_is = refl;
  tried_is = refl;
  not = λ more e. starts-not (codes "log") bytes not more e;
})
is_locate bytes not first words.LogOf = inr (record {
  shared = codes "lo";
  letter = 103;
  others = 32 ∷ [];
  rest = codes "cate ";
  word_is = refl;
  tried_is = refl;
  not = λ more e. starts-not (codes "log") bytes not more e;
})
is_locate bytes not first v = inr (other_letter v (words.Command commands.Locate) bytes first refl)

-- "edit " is what is tried where no other word's letter stands
is_edit : (bytes : List ℕ) → begins_with 102 bytes ≡ false → begins_with 112 bytes ≡ false → begins_with 115 bytes ≡ false → begins_with 98 bytes ≡ false → begins_with 114 bytes ≡ false → begins_with 108 bytes ≡ false
    → (v : RequestWord) → (v ≡ words.Command commands.Edit) ⊎ Apart (word_text v) (word_text (words.Command commands.Edit)) bytes
is_edit bytes f p s b r l (words.Command commands.Edit) = inl refl
is_edit bytes f p s b r l (words.Command commands.Remove) = inr (by_letter (words.Command commands.Remove) (codes "edit ") bytes (λ e. begins-not 114 bytes (omega arith) r e))
is_edit bytes f p s b r l (words.Command commands.Batch) = inr (by_letter (words.Command commands.Batch) (codes "edit ") bytes (λ e. begins-not 98 bytes (omega arith) b e))
is_edit bytes f p s b r l (words.Command commands.Save) = inr (by_letter (words.Command commands.Save) (codes "edit ") bytes (λ e. begins-not 115 bytes (omega arith) s e))
is_edit bytes f p s b r l (words.Command commands.Locate) = inr (by_letter (words.Command commands.Locate) (codes "edit ") bytes (λ e. begins-not 108 bytes (omega arith) l e))
is_edit bytes f p s b r l words.File = inr (by_letter words.File (codes "edit ") bytes (λ e. begins-not 102 bytes (omega arith) f e))
is_edit bytes f p s b r l words.Page = inr (by_letter words.Page (codes "edit ") bytes (λ e. begins-not 112 bytes (omega arith) p e))
is_edit bytes f p s b r l words.Log = inr (by_letter words.Log (codes "edit ") bytes (λ e. begins-not 108 bytes (omega arith) l e))
is_edit bytes f p s b r l words.LogOf = inr (by_letter words.LogOf (codes "edit ") bytes (λ e. begins-not 108 bytes (omega arith) l e))

-- a word of a script's commands, as a word of requests
IsWordAt : List ℕ → Read RequestWord → Type 0
IsWordAt bytes r = Reads (λ v. Unit {0}) (λ v. (Word, word_text v) ∷ []) bytes r

abbrev with_word : CommandWord → List ℕ → Read CommandWord
with_word w rest = Ok (w, rest)

abbrev as_request : CommandWord × List ℕ → Read RequestWord
as_request word = Ok (words.Command word.0, word.1)

command : (w : CommandWord) (bytes : List ℕ) → IsWordAt bytes (literal_at Word (command_text w) bytes >>= λ rest. Ok (words.Command w, rest))
    → IsWordAt bytes ((literal_at Word (command_text w) bytes >>= with_word w) >>= as_request)
unfolding IsWordAt
command w bytes reads =
    subst (λ (r : Read RequestWord). Reads (λ v. Unit {0}) (λ v. (Word, word_text v) ∷ []) bytes r)
    (sym (bind_assoc (literal_at Word (command_text w) bytes) (with_word w) as_request)) reads

command_word_reads : (bytes : List ℕ) → begins_with 102 bytes ≡ false → begins_with 112 bytes ≡ false → starts_with nat_eq bytes (codes "log") ≡ false → IsWordAt bytes (word_at bytes >>= as_request)
unfolding word_at IsWordAt
command_word_reads bytes not_f not_p not_log = by (begins_with 115 bytes) (begins_with 98 bytes) (begins_with 114 bytes) (begins_with 108 bytes) refl refl refl refl
  where
    by : (s b r l : Bool) → begins_with 115 bytes ≡ s → begins_with 98 bytes ≡ b → begins_with 114 bytes ≡ r → begins_with 108 bytes ≡ l → IsWordAt bytes
        (cond s (literal_at Word (codes "save ") bytes >>= with_word commands.Save)
        (cond b (literal_at Word (codes "batch ") bytes >>= with_word commands.Batch)
        (cond r (literal_at Word (codes "remove ") bytes >>= with_word commands.Remove)
        (cond l (literal_at Word (codes "locate ") bytes >>= with_word commands.Locate) (literal_at Word (codes "edit ") bytes >>= with_word commands.Edit))))
        >>= as_request)
    by true b r l s_is b_is r_is l_is = command commands.Save bytes (alone (words.Command commands.Save) bytes only_save (begins 115 bytes s_is))
    by false true r l s_is b_is r_is l_is = command commands.Batch bytes (alone (words.Command commands.Batch) bytes only_batch (begins 98 bytes b_is))
    by false false true l s_is b_is r_is l_is = command commands.Remove bytes (alone (words.Command commands.Remove) bytes only_remove (begins 114 bytes r_is))
    by false false false true s_is b_is r_is l_is = command commands.Locate bytes (tried_word word_text (words.Command commands.Locate) bytes (is_locate bytes not_log (begins 108 bytes l_is)))
    by false false false false s_is b_is r_is l_is = command commands.Edit bytes (tried_word word_text (words.Command commands.Edit) bytes (is_edit bytes not_f not_p s_is b_is r_is l_is))

pub request_word_reads : (bytes : List ℕ) → Reads (λ v. Unit {0}) (λ v. (Word, word_text v) ∷ []) bytes (request_word_at bytes)
unfolding request_word_at IsWordAt
request_word_reads bytes = by (begins_with 102 bytes) (begins_with 112 bytes) (starts_with nat_eq bytes (codes "log\n")) (starts_with nat_eq bytes (codes "log")) refl refl refl refl
  where
    by : (f p n l : Bool) → begins_with 102 bytes ≡ f → begins_with 112 bytes ≡ p → starts_with nat_eq bytes (codes "log\n") ≡ n → starts_with nat_eq bytes (codes "log") ≡ l
        → Reads (λ v. Unit {0}) (λ v. (Word, word_text v) ∷ []) bytes
        (cond f (literal_at Word (codes "file ") bytes >>= λ rest. Ok (words.File, rest))
        (cond p (literal_at Word (codes "page ") bytes >>= λ rest. Ok (words.Page, rest))
        (cond n (literal_at Word (codes "log\n") bytes >>= λ rest. Ok (words.Log, rest))
        (cond l (literal_at Word (codes "log ") bytes >>= λ rest. Ok (words.LogOf, rest)) (word_at bytes >>= λ word. Ok (words.Command word.0, word.1))))))
    by true p n l f_is p_is n_is l_is = alone words.File bytes only_file (begins 102 bytes f_is)
    by false true n l f_is p_is n_is l_is = alone words.Page bytes only_page (begins 112 bytes p_is)
    by false false true l f_is p_is n_is l_is = tried_word word_text words.Log bytes (is_log bytes n_is)
    by false false false true f_is p_is n_is l_is = tried_word word_text words.LogOf bytes (is_log_of bytes n_is l_is)
    by false false false false f_is p_is n_is l_is = command_word_reads bytes f_is p_is l_is
