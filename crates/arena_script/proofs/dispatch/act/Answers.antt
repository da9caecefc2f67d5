use Rattle.arena_script.proofs.dispatch.act.Goals as goal

pub returns-in-MakeList : goal.returns-in-MakeList
returns-in-MakeList g c = rw c.in-MakeList.is (c.make_list.ensures c.args.a.now)

pub returns-in-MakeText : goal.returns-in-MakeText
returns-in-MakeText g c = rw c.in-MakeText.is (c.make_text.ensures c.args.a.now)

pub returns-in-MakeMap : goal.returns-in-MakeMap
returns-in-MakeMap g c = rw c.in-MakeMap.is (c.make_map.ensures c.args.a.now)

pub returns-in-DropName : goal.returns-in-DropName
returns-in-DropName g c = rw c.in-DropName.is (c.drop_name.ensures c.args.a.now)
