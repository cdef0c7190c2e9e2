use Rattle.tx_main.proofs.effects.carry_out.Goals as goal

pub returns-in-Prefix : goal.returns-in-Prefix
returns-in-Prefix c = rw c.in-Prefix.is (c.prefix.ensures c.args.s.now c.requires.running)

pub returns-in-BeginLeaders : goal.returns-in-BeginLeaders
returns-in-BeginLeaders c = rw c.in-BeginLeaders.is (c.begin_leaders.ensures c.args.s.now c.requires.running)

pub returns-in-DefineFuture : goal.returns-in-DefineFuture
returns-in-DefineFuture c = rw c.in-DefineFuture.is (c.define_future.ensures c.args.s.now c.requires.running)

pub returns-in-Keep : goal.returns-in-Keep
returns-in-Keep c = rw c.in-Keep.is (c.keep.ensures c.args.s.now c.requires.running)

pub returns-in-BeginAccent : goal.returns-in-BeginAccent
returns-in-BeginAccent c = rw c.in-BeginAccent.is (c.begin_accent.ensures c.args.s.now c.requires.running)

pub returns-in-EndAccent : goal.returns-in-EndAccent
returns-in-EndAccent c = rw c.in-EndAccent.is (c.end_accent.ensures c.args.s.now c.requires.running)

pub returns-in-BeginAtom : goal.returns-in-BeginAtom
returns-in-BeginAtom c = rw c.in-BeginAtom.is (c.begin_atom.ensures c.args.s.now c.requires.running)

pub returns-in-BeginDelimited : goal.returns-in-BeginDelimited
returns-in-BeginDelimited c = rw c.in-BeginDelimited.is (c.await_delimiter.ensures c.args.s.now c.requires.running)
