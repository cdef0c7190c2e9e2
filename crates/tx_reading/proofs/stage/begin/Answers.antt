use Rattle.tx_reading.proofs.stage.begin.Goals as goal

pub returns-in-Command : goal.returns-in-Command
returns-in-Command c = rw c.in-Command.is c.begin_primitive.ensures

pub returns-in-Character : goal.returns-in-Character
returns-in-Character c = rw c.in-Character.is c.character.ensures

pub returns-in-CountRegister : goal.returns-in-CountRegister
returns-in-CountRegister c = rw c.in-CountRegister.is c.begin_place.ensures

pub returns-in-DimenRegister : goal.returns-in-DimenRegister
returns-in-DimenRegister c = rw c.in-DimenRegister.is c.begin_place-in-DimenRegister.ensures

pub returns-in-SkipRegister : goal.returns-in-SkipRegister
returns-in-SkipRegister c = rw c.in-SkipRegister.is c.begin_place-in-SkipRegister.ensures

pub returns-in-MuskipRegister : goal.returns-in-MuskipRegister
returns-in-MuskipRegister c = rw c.in-MuskipRegister.is c.begin_place-in-MuskipRegister.ensures

pub returns-in-ToksRegister : goal.returns-in-ToksRegister
returns-in-ToksRegister c = rw c.in-ToksRegister.is c.begin_place-in-ToksRegister.ensures
