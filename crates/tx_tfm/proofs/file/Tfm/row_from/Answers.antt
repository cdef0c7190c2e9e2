use Rattle.std.proofs.Common.{◌≡◌, ◌≢◌, ℕ, zero, suc, ◌+◌, ◌-◌, ◌*◌, ◌≤◌, Bool, true, false, Option, None, length, refl, sym, ap, ◌∙◌, arith, true≢false}
use Rattle.std.proofs.lemmas.List.{get_or_past}
use Rattle.tx_tfm.specs.declared.file.Tfm.{Tfm}
use Rattle.tx_tfm.specs.declared.file.Word.{Word}
use Rattle.tx_tfm.specs.declared.ligatures.Filling.{Filling}
use Rattle.tx_tfm.specs.Format.{word_at, commands_at}
use Rattle.tx_tfm.specs.LigKern.{command_at, found}
use Rattle.tx_tfm.specs.Table.{IsRowFrom, ligature}
use Rattle.tx_tfm.specs.Filling.{is_met}
use Rattle.tx_tfm.proofs.Programs.{found-later, found-none}
use Rattle.tx_tfm.proofs.Walks.{Walks, IsSettled, walks-on, walks-spent, walks-halt, walks-last}
use Rattle.tx_tfm.proofs.file.Tfm.row_from.Goals as goal
use Rattle.tx_tfm.proofs.file.Tfm.row_from.Goals.{else-loop-left-test, then-loop-left-test+then-command-gt128, then-loop-left-test+else-command-gt128+in_ok-take+then-command, then-loop-left-test+else-command-gt128+in_ok-take+else-command+then-len-commands_at}

-- bytes past the end count as 0
skip-past : (t : Tfm) (k : ℕ) → length t.bytes ≤ 4 * k → (word_at t k).a ≡ 0
unfolding word_at
skip-past t k past = get_or_past t.bytes (4 * k) 0 past

next-past : (t : Tfm) (k : ℕ) → length t.bytes ≤ 4 * k → (word_at t k).b ≡ 0
unfolding word_at
next-past t k past = get_or_past t.bytes (4 * k + 1) 0 (omega (arith, past))

-- past the end of the file all commands are for a next character 0
found-past : (t : Tfm) (n k r : ℕ) → length t.bytes ≤ 4 * (commands_at t.lengths + k) → r ≢ 0 → found t n k r ≡ None
found-past t zero k r past other = found-none t k r
found-past t (suc n) k r past other =
    let a : (command_at t k).a ≡ 0 = skip-past t (commands_at t.lengths + k) past in
    let b : (command_at t k).b ≡ 0 = next-past t (commands_at t.lengths + k) past in
    let less : suc n - 1 ≡ n = omega arith in
    found-later t (suc n) k r (k + 1) (command_at t k) refl (omega arith) (omega (arith, a)) (λ e. other (sym e ∙ b)) (λ e. omega (arith, a, e)) (omega (arith, a))
    ∙ ap (λ m. found t m (k + 1) r) less ∙ found-past t n (k + 1) r (omega (arith, past)) other

settled-past : (met : Bool) (entry rest whole : Option Word) → IsSettled met entry rest whole → (met ≡ false → rest ≡ None) → entry ≡ ligature whole
settled-past true entry rest whole settled none = settled
settled-past false entry rest whole settled none = settled.0 ∙ ap ligature (sym (none refl) ∙ settled.1)

walks-past : (t : Tfm) (start place left : ℕ) (f : Filling) → Walks t start f place left → length t.bytes ≤ 4 * (commands_at t.lengths + place) → is_met f 0 ≡ true → IsRowFrom t start f.row
walks-past t start place left f walks past met = record {
  entry = λ k less. settled-past (is_met f k) _ (found t left place k) _ (walks.settled k less) (λ none. found-past t left place k past (λ first. true≢false (sym met ∙ ap (is_met f) (sym first) ∙ none)));
  boundary = walks.boundary;
}

pub loop-left-preserved : goal.loop-left-preserved
loop-left-preserved c =
    (walks-on c.args.self.now c.args.start c.loop-left.place c.loop-left.left _ c.loop-left.filling c.take.new.self c.command-command.result c.loop-left.invariant.0 c.command-command.ensures (omega arith) c.if-command-gt128.false c.if-command.false (omega arith) c.in_ok-take.ensures (omega arith), omega arith)

pub returns : goal.returns
returns c =
    elim c.loop-left-test.branch [
      | else-loop-left-test w ↦ rw w.filling-is (walks-spent c.args.self.now c.args.start c.loop-left.place c.loop-left.left c.loop-left.filling c.loop-left.invariant.0 (omega arith))
      | then-loop-left-test+then-command-gt128 w ↦ rw w.filling-is (walks-halt c.args.self.now c.args.start c.loop-left.place c.loop-left.left c.loop-left.filling w.command-command.result c.loop-left.invariant.0 w.command-command.ensures (omega arith) w.if-command-gt128.true)
      | then-loop-left-test+else-command-gt128+in_ok-take+then-command w ↦ rw w.filling-is (walks-last c.args.self.now c.args.start c.loop-left.place c.loop-left.left c.loop-left.filling w.take.new.self w.command-command.result c.loop-left.invariant.0 w.command-command.ensures (omega arith) w.if-command.true w.in_ok-take.ensures (omega arith))
      | then-loop-left-test+else-command-gt128+in_ok-take+else-command+then-len-commands_at w ↦
          let zero_next : w.command-command.result.b ≡ 0 = ap (λ (it : Word). it.b) w.command-command.ensures ∙ next-past c.args.self.now (commands_at c.args.self.now.lengths + c.loop-left.place) (omega arith) in
          rw w.filling-is (walks-past c.args.self.now c.args.start (c.loop-left.place + w.command-command.result.a + 1) (c.loop-left.left - 1) w.take.new.self
          (walks-on c.args.self.now c.args.start c.loop-left.place c.loop-left.left _ c.loop-left.filling w.take.new.self w.command-command.result c.loop-left.invariant.0 w.command-command.ensures (omega arith) w.if-command-gt128.false w.if-command.false refl w.in_ok-take.ensures (omega arith))
          (omega arith)
          (ap (is_met w.take.new.self) (sym zero_next) ∙ w.in_ok-take.ensures.met))
    ]
