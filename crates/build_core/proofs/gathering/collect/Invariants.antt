use Rattle.std.proofs.Common.{◌≡◌, ◌≤◌, ◌++◌, ℕ, List, map}
use Rattle.std.specs.Arc.{arc_value}
use Rattle.po_rules.specs.Gathering.{table_nodes, table_limit}
use Rattle.build_core.proofs.EachOwn.{AreOwn, HaveOwns}
use Rattle.build_core.proofs.gathering.collect.Given as goal

abbrev pub invariant-loop-name : goal.invariant-loop-name
invariant-loop-name l =
    record {
      done : List (List ℕ × List ℕ);
      all : done ++ l.name-iterator ≡ l.texts.entries;
      table : AreOwn l.judged.components l.judged.progress.outcomes done (map arc_value l.out.obligations.items);
      nodes : l.out.nodes ≡ table_nodes (map arc_value l.out.obligations.items);
      within : l.out.nodes ≤ table_limit;
      owns : HaveOwns l.judged.components l.judged.progress.outcomes l.texts.entries l.out.owns.entries;
    }
