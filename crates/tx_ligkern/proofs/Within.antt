-- Composing by so many steps as any word can need finds what becomes of it.
use Rattle.std.proofs.Common.{◌≡◌, ℕ, zero, suc, ◌<◌, ◌≤◌, Bool, true, false, cond, ltb, Option, Some, None, List, [], ◌∷◌, ◌++◌, length, map, refl, sym, ap, subst, arith}
use Rattle.std.specs.Prelude.{All, IsTrue}
use Rattle.tx_tfm.specs.declared.file.Word.{Word}
use Rattle.tx_tfm.specs.declared.metrics.Metrics.{Metrics}
use Rattle.tx_tfm.specs.Format.{is_there}
use Rattle.tx_tfm.specs.LigKern.{command_of}
use Rattle.tx_tfm.specs.Rewriting.{ends_within}
use Rattle.tx_tfm.specs.Sound.{IsSound}
use Rattle.tx_ligkern.specs.declared.piece.Piece.{Piece}
use Rattle.tx_ligkern.specs.Pieces.{code_of, word_of}
use Rattle.tx_ligkern.specs.Composing.{ahead, Becomes, Empty, Last}
use Rattle.tx_ligkern.specs.Composed.{composed, composed_within, most_steps}
use Rattle.tx_ligkern.specs.Steps.{finished, most_commands, onward, Moved}
use Rattle.tx_ligkern.proofs.Rewritten.{ahead-some}
use Rattle.tx_ligkern.proofs.Steps.{Going, going-moved, measure, measure-le, word-ends}

-- the steps suffice
enough : (m : Metrics) (current : Piece) (rest : List Piece) → measure m (most_commands (current ∷ rest)) current rest < most_steps (current ∷ rest)
unfolding most_steps
enough m current rest = let l = measure-le m (most_commands (current ∷ rest)) current rest in omega (arith, l)

-- each leaves a piece at the cursor
onward-some : (met : Option Word) (current next : Piece) (rest : List Piece) → 1 ≤ length (onward met current next rest)
onward-some None current next rest = omega arith
onward-some (Some w) current next rest = by (ltb w.c 128)
  where
    by : (b : Bool) → 1 ≤ length (cond b (ahead w current next rest) (next ∷ rest))
    by true = ahead-some w current next rest
    by false = omega arith

-- the command that a pair meets
abbrev met : Metrics → Piece → Piece → Option Word
met m current next = command_of m.file (code_of current) (code_of next)

-- pieces within more steps than their measure
within-becomes : (m : Metrics) (limit n : ℕ) (current : Piece) (rest : List Piece) → ends_within m.file limit (map code_of (current ∷ rest)) ≡ true → measure m limit current rest < n
    → Becomes m (current ∷ rest) (composed_within n m (current ∷ rest))
unfolding composed_within
within-becomes m limit zero current rest e h = absurd (omega (arith, h))
within-becomes m limit (suc n) current [] e h = Last current
within-becomes m limit (suc n) current (next ∷ rest) e h = by (within-becomes m limit n) (onward (met m current next) current next rest) refl
  where
    by : ((cursor : Piece) (behind : List Piece) → ends_within m.file limit (map code_of (cursor ∷ behind)) ≡ true → measure m limit cursor behind < n → Becomes m (cursor ∷ behind) (composed_within n m (cursor ∷ behind)))
        → (list : List Piece) → onward (met m current next) current next rest ≡ list
        → Becomes m (current ∷ next ∷ rest) (finished m (met m current next) current next ++ composed_within n m (onward (met m current next) current next rest))
    by others [] is =
        let some = onward-some (met m current next) current next rest in
        let none : length (onward (met m current next) current next rest) ≡ 0 = ap length is in
        absurd (omega (arith, some, none))
    by others (cursor ∷ behind) is =
        let begun : Going m (current ∷ next ∷ rest) limit current (next ∷ rest) [] = record { tells = λ items b. b; ends = e } in
        let moved : Moved m current next rest [] cursor behind (finished m (met m current next) current next) = record { ahead_is = sym is; done_is = refl } in
        let going = going-moved begun moved in
        let rest_is : Becomes m (cursor ∷ behind) (composed_within n m (cursor ∷ behind)) = others cursor behind going.0.ends (omega (arith, going.1, h)) in
        subst (λ (list : List Piece). Becomes m (current ∷ next ∷ rest) (finished m (met m current next) current next ++ composed_within n m list)) (sym is)
        (going.0.tells (composed_within n m (cursor ∷ behind)) rest_is)

nothing-becomes : (m : Metrics) → Becomes m [] (composed_within (most_steps []) m [])
unfolding composed_within most_steps
nothing-becomes m = Empty

-- what characters become, whichever of their boundaries count
pub composed-is : (m : Metrics) (chars : List ℕ) (left right : Bool) → IsSound m → All (λ c. IsTrue (is_there m.file c)) chars → Becomes m (word_of chars left right) (composed m chars left right)
unfolding composed
composed-is m chars left right sound all = by (word_of chars left right) refl
  where
    by : (word : List Piece) → word_of chars left right ≡ word → Becomes m (word_of chars left right) (composed_within (most_steps (word_of chars left right)) m (word_of chars left right))
    by [] e = subst (λ (w : List Piece). Becomes m w (composed_within (most_steps w) m w)) (sym e) (nothing-becomes m)
    by (current ∷ rest) e =
        subst (λ (w : List Piece). Becomes m w (composed_within (most_steps w) m w)) (sym e)
        (within-becomes m (most_commands (current ∷ rest)) (most_steps (current ∷ rest)) current rest (word-ends m current rest chars left right sound all e) (enough m current rest))
