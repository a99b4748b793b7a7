-- When a tree may be stored, by its status.
use Rattle.std.proofs.Common.{◌≡◌, ◌≤◌, subst}
use Rattle.sequent_core.specs.declared.Sequent.{Sequent}
use Rattle.sequent_core.specs.declared.Tree.{Tree}
use Rattle.sequent_core.specs.Provers.{IsGoodTree}
use Rattle.sequent_core.specs.Trees.{node_count}
use Rattle.core_steps.specs.declared.events.Status.{Status}
use Rattle.core_steps.specs.declared.events.Status.TheVariants.{Discharged}
use Rattle.core_steps.specs.Status.{IsTreeStatus}
use Rattle.core_steps.proofs.OneWay.{one_tree_status}

-- a small tree is good for just the sequents for which its status is discharged
module _ (tree : Tree) (s : Sequent) (status : Status) (is : IsTreeStatus tree s status) where
  pub good_discharged : node_count tree ≤ 2048 → status ≡ Discharged → IsGoodTree tree s
  good_discharged small e = record { small = small; derives = subst (IsTreeStatus tree s) e is }

  pub discharged_good : IsGoodTree tree s → status ≡ Discharged
  discharged_good good = one_tree_status tree s status Discharged is good.derives
