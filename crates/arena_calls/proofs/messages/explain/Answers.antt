use Rattle.arena_calls.proofs.messages.explain.Goals as goal

pub returns-in-Usage-clause-part : goal.returns-in-Usage-clause-part
returns-in-Usage-clause-part g c = rw c.in-Usage.is c.write_all.ensures.part

pub returns-in-InputTooLong-clause-ok : goal.returns-in-InputTooLong-clause-ok
returns-in-InputTooLong-clause-ok g c = rw c.in-InputTooLong.is c.write_all-in-InputTooLong.ensures.ok

pub returns-in-InputTooLong-clause-part : goal.returns-in-InputTooLong-clause-part
returns-in-InputTooLong-clause-part g c = rw c.in-InputTooLong.is c.write_all-in-InputTooLong.ensures.part
