use Rattle.std.proofs.Common.{◌≡◌, ℕ, List, [], ◌∷◌, ◌++◌, reverse, sym, ap, subst, ◌∙◌, append_assoc, rules}
use Rattle.std.proofs.lemmas.List.{append-nil}
use Rattle.std.proofs.lemmas.Result.{on_ok_weaker}
use Rattle.tx_tfm.specs.declared.file.Word.{Word}
use Rattle.tx_ligkern.specs.declared.item.LigItem.{LigItem}
use Rattle.tx_ligkern.specs.declared.item.LigItem.TheVariants as lig
use Rattle.tx_ligkern.specs.declared.piece.Piece.{Piece}
use Rattle.tx_ligkern.specs.declared.piece.Piece.TheVariants.{Ligature}
use Rattle.tx_ligkern.specs.Pieces.{items_of, originals}
use Rattle.tx_ligkern.specs.Steps.{Carried}
use Rattle.tx_ligkern.proofs.Steps.{reverse-push}
use Rattle.tx_ligkern.proofs.ligature.carry_out.Goals as goal

module _ (w : Word) (current next : Piece) (backwards : List Piece) (done : List LigItem) where
  -- the same command with its op as a number, by which its kind is computed
  Made : ℕ → Piece → List Piece → List LigItem → Type 0
  Made op cursor rest' done' = Carried (record w { c = op }) current next (reverse backwards) done cursor (reverse rest') done'

  carried : (op : ℕ) (cursor : Piece) (rest' : List Piece) (done' : List LigItem) → w.c ≡ op → Made op cursor rest' done' → Carried w current next (reverse backwards) done cursor (reverse rest') done'
  unfolding Made
  carried op cursor rest' done' is made =
      let same : record w { c = op } ≡ w = λ i. record w { c = sym is i } in
      subst (λ (v : Word). Carried v current next (reverse backwards) done cursor (reverse rest') done') same made

  in-current : (cursor : Piece) (rest' : List Piece) → cursor ≡ Ligature w.d (originals current) → rest' ≡ backwards ++ next ∷ [] → Made 1 cursor rest' done
  unfolding Made
  in-current cursor rest' cursor_is rest_is = record {
    ahead_is = λ i. (cursor_is ∙ ap (λ (from : List ℕ). Ligature w.d from) (sym (append-nil (originals current)))) i ∷ reverse-push rest' backwards next rest_is i;
    done_is = sym (append-nil done);
  }

  in-next : (rest' : List Piece) → rest' ≡ backwards ++ Ligature w.d (originals next) ∷ [] → Made 2 current rest' done
  unfolding Made
  in-next rest' rest_is = record {
    ahead_is = λ i. current ∷ reverse-push rest' backwards (Ligature w.d (originals next)) rest_is i;
    done_is = sym (append-nil done);
  }

  in-between : (further rest' : List Piece) → further ≡ backwards ++ next ∷ [] → rest' ≡ further ++ Ligature w.d [] ∷ [] → Made 3 current rest' done
  unfolding Made
  in-between further rest' further_is rest_is = record {
    ahead_is =
        (λ i. current ∷ reverse-push rest' further (Ligature w.d []) rest_is i)
        ∙ (λ i. current ∷ Ligature w.d [] ∷ reverse-push further backwards next further_is i);
    done_is = sym (append-nil done);
  }

  past-current : (cursor : Piece) (done' : List LigItem) → cursor ≡ next → done' ≡ done ++ items_of (Ligature w.d (originals current)) → Made 5 cursor backwards done'
  unfolding Made
  past-current cursor done' cursor_is done_is = record {
    ahead_is = λ i. cursor_is i ∷ reverse backwards;
    done_is = done_is ∙ ap (λ (from : List ℕ). done ++ lig.Lig w.d from ∷ []) (sym (append-nil (originals current)));
  }

  past-kept : (cursor : Piece) (done' : List LigItem) → cursor ≡ Ligature w.d (originals next) → done' ≡ done ++ items_of current → Made 6 cursor backwards done'
  unfolding Made
  past-kept cursor done' cursor_is done_is = record {
    ahead_is = λ i. cursor_is i ∷ reverse backwards;
    done_is = done_is ∙ ap (λ (items : List LigItem). done ++ items) (sym (append-nil (items_of current)));
  }

  past-both-kept : (cursor : Piece) (rest' : List Piece) (done' : List LigItem) → cursor ≡ Ligature w.d [] → rest' ≡ backwards ++ next ∷ [] → done' ≡ done ++ items_of current → Made 7 cursor rest' done'
  unfolding Made
  past-both-kept cursor rest' done' cursor_is rest_is done_is = record {
    ahead_is = λ i. cursor_is i ∷ reverse-push rest' backwards next rest_is i;
    done_is = done_is ∙ ap (λ (items : List LigItem). done ++ items) (sym (append-nil (items_of current)));
  }

  past-two : (cursor : Piece) (so_far done' : List LigItem) → cursor ≡ next → so_far ≡ done ++ items_of current → done' ≡ so_far ++ items_of (Ligature w.d []) → Made 11 cursor backwards done'
  unfolding Made
  past-two cursor so_far done' cursor_is so_far_is done_is = record {
    ahead_is = λ i. cursor_is i ∷ reverse backwards;
    done_is = done_is ∙ ap (λ (items : List LigItem). items ++ lig.Lig w.d [] ∷ []) so_far_is ∙ append_assoc done (items_of current) (lig.Lig w.d [] ∷ []);
  }

pub returns-in_ok-push-in-1 : goal.returns-in_ok-push-in-1
returns-in_ok-push-in-1 c =
    let w : Word = c.args.command in
    on_ok_weaker c.replace.result
    (λ cursor_is.
    carried w c.args.cursor.now c.args.next c.args.rest.now.items c.args.done.now 1 c.replace.new.cursor c.push.new.rest.items c.args.done.now c.in-1.is
    (in-current w c.args.cursor.now c.args.next c.args.rest.now.items c.args.done.now c.replace.new.cursor c.push.new.rest.items cursor_is c.in_ok-push-in-1.ensures))
    c.replace.ensures

pub returns-in_ok-in_stead-in-2 : goal.returns-in_ok-in_stead-in-2
returns-in_ok-in_stead-in-2 c =
    let w : Word = c.args.command in
    on_ok_weaker c.push-in-2.result
    (λ rest_is.
    carried w c.args.cursor.now c.args.next c.args.rest.now.items c.args.done.now 2 c.args.cursor.now c.push-in-2.new.rest.items c.args.done.now c.in-2.is
    (in-next w c.args.cursor.now c.args.next c.args.rest.now.items c.args.done.now c.push-in-2.new.rest.items
    (rest_is ∙ ap (λ (p : Piece). c.args.rest.now.items ++ p ∷ []) c.in_ok-in_stead-in-2.ensures)))
    c.push-in-2.ensures

pub returns-in_ok-push-in-3 : goal.returns-in_ok-push-in-3
returns-in_ok-push-in-3 c =
    let w : Word = c.args.command in
    on_ok_weaker c.push-in-3-2.result
    (λ rest_is.
    carried w c.args.cursor.now c.args.next c.args.rest.now.items c.args.done.now 3 c.args.cursor.now c.push-in-3-2.new.rest.items c.args.done.now c.in-3.is
    (in-between w c.args.cursor.now c.args.next c.args.rest.now.items c.args.done.now c.push-in-3.new.rest.items c.push-in-3-2.new.rest.items c.in_ok-push-in-3.ensures
    (rest_is ∙ ap (λ (p : Piece). c.push-in-3.new.rest.items ++ p ∷ []) c.made.ensures)))
    c.push-in-3-2.ensures

pub returns-in_ok-in_stead-in-5 : goal.returns-in_ok-in_stead-in-5
returns-in_ok-in_stead-in-5 c =
    let w : Word = c.args.command in
    let cursor_is : c.replace-in-5.new.dest ≡ c.args.next = search rules in
    let ligature = c.in_ok-in_stead-in-5.ensures ∙ ap (λ (p : Piece). Ligature w.d (originals p)) c.replace-in-5.ensures.value in
    on_ok_weaker c.put.result
    (λ done_is.
    carried w c.args.cursor.now c.args.next c.args.rest.now.items c.args.done.now 5 c.replace-in-5.new.dest c.args.rest.now.items c.put.new.items c.in-5.is
    (past-current w c.args.cursor.now c.args.next c.args.rest.now.items c.args.done.now c.replace-in-5.new.dest c.put.new.items cursor_is
    (done_is ∙ ap (λ (p : Piece). c.args.done.now ++ items_of p) ligature)))
    c.put.ensures

pub returns-in_ok-in_stead-in-6 : goal.returns-in_ok-in_stead-in-6
returns-in_ok-in_stead-in-6 c =
    let w : Word = c.args.command in
    let moved : c.replace-in-6.new.dest ≡ c.in_ok-in_stead-in-6.field-0 = search rules in
    on_ok_weaker c.put-in-6.result
    (λ done_is.
    carried w c.args.cursor.now c.args.next c.args.rest.now.items c.args.done.now 6 c.replace-in-6.new.dest c.args.rest.now.items c.put-in-6.new.items c.in-6.is
    (past-kept w c.args.cursor.now c.args.next c.args.rest.now.items c.args.done.now c.replace-in-6.new.dest c.put-in-6.new.items (moved ∙ c.in_ok-in_stead-in-6.ensures)
    (done_is ∙ ap (λ (p : Piece). c.args.done.now ++ items_of p) c.replace-in-6.ensures.value)))
    c.put-in-6.ensures

pub returns-in_ok-push-in-7 : goal.returns-in_ok-push-in-7
returns-in_ok-push-in-7 c =
    let w : Word = c.args.command in
    let moved : c.replace-in-7.new.dest ≡ c.made-in-7.result = search rules in
    on_ok_weaker c.put-in-7.result
    (λ done_is.
    carried w c.args.cursor.now c.args.next c.args.rest.now.items c.args.done.now 7 c.replace-in-7.new.dest c.push-in-7.new.rest.items c.put-in-7.new.items c.in-7.is
    (past-both-kept w c.args.cursor.now c.args.next c.args.rest.now.items c.args.done.now c.replace-in-7.new.dest c.push-in-7.new.rest.items c.put-in-7.new.items (moved ∙ c.made-in-7.ensures) c.in_ok-push-in-7.ensures
    (done_is ∙ ap (λ (p : Piece). c.args.done.now ++ items_of p) c.replace-in-7.ensures.value)))
    c.put-in-7.ensures

pub returns-in_ok-put-in-11 : goal.returns-in_ok-put-in-11
returns-in_ok-put-in-11 c =
    let w : Word = c.args.command in
    let cursor_is : c.replace-in-11.new.dest ≡ c.args.next = search rules in
    let so_far : c.put-in-11.new.items ≡ c.args.done.now ++ items_of c.args.cursor.now = c.in_ok-put-in-11.ensures ∙ ap (λ (p : Piece). c.args.done.now ++ items_of p) c.replace-in-11.ensures.value in
    on_ok_weaker c.put-in-11-2.result
    (λ done_is.
    carried w c.args.cursor.now c.args.next c.args.rest.now.items c.args.done.now 11 c.replace-in-11.new.dest c.args.rest.now.items c.put-in-11-2.new.items c.in-11.is
    (past-two w c.args.cursor.now c.args.next c.args.rest.now.items c.args.done.now c.replace-in-11.new.dest c.put-in-11.new.items c.put-in-11-2.new.items cursor_is so_far
    (done_is ∙ ap (λ (p : Piece). c.put-in-11.new.items ++ items_of p) c.made-in-11.ensures)))
    c.put-in-11-2.ensures
