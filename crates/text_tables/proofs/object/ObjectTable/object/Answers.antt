use Rattle.text_tables.proofs.object.ObjectTable.object.Goals as goal

pub returns-in-Ok : goal.returns-in-Ok
returns-in-Ok c = λ i o at from. c.object_at.ensures i o at from
