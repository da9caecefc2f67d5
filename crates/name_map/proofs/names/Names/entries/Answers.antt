use Rattle.std.proofs.lemmas.Bool.Decides.{nat_tests}
use Rattle.std.proofs.Common.{◌≡◌, ◌++◌, ◌∷◌, [], arith, append-nil, length, ◌<◌}
use Rattle.std.proofs.lemmas.Grind.{common_steps}
use Rattle.std.proofs.lemmas.List.{drop_all}
use Rattle.name_map.proofs.MapLemmas.{tree_entries}
use Rattle.name_map.proofs.NameLemmas.{entries_some, entries_none}
use Rattle.name_map.proofs.names.Names.entries.Goals as goal
use Rattle.name_map.proofs.names.Names.entries.Goals.{in-Some+in_ok-push, in_default}

pub loop-at-preserved : goal.loop-at-preserved
loop-at-preserved g c =
    let within : c.loop-at.at < length c.self.inside.first.items = omega (arith, c.loop-at.invariant.end, c.loop-at-test.true) in
    record {
      end = c.loop-at.invariant.end;
      within = omega (arith, c.loop-at-test.true);
      listed = elim c.match-index.branch [
        | in-Some+in_ok-push w ↦
            let pushed : c.match-index.all.items ≡ c.loop-at.all.items ++ (c.loop-at.at, w.in-Some.value) ∷ [] = grind (arith, common_steps) in
            let next = entries_some c.self.inside.first.items c.self.inside.others c.loop-at.at c.index.result.now w.in-Some.value
            c.self.invariant within c.index.ensures w.in-Some.is in
            grind (arith, common_steps)
        | in_default w ↦
            let next = entries_none c.self.inside.first.items c.self.inside.others c.loop-at.at c.index.result.now
            within c.index.ensures w.in_default.is in
            grind (arith, common_steps)
      ];
    }

pub returns : goal.returns
returns g c = grind (arith, nat_tests, tree_entries, append-nil, drop_all)
