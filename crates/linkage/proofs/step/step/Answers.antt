-- `linkage::step::step` meets its contract: each call's promise is that of its function for C. A goal that is not named is closed by search.
use Rattle.store.specs.Power.{power_call}
use Rattle.store.specs.Put.{put_call}
use Rattle.store.specs.Commit.{commit_call}
use Rattle.store.specs.Abandon.{abandon_call}
use Rattle.store.specs.Direct.{direct_call}
use Rattle.store.specs.Saves.{sync_call, apply_call, recover_call}
use Rattle.store.specs.Cut.{cut_call}
use Rattle.history.specs.Dispatch.{called}
use Rattle.linkage.proofs.Steps.{no_place, get-place, list_out}
use Rattle.linkage.proofs.step.step.Goals as goal

pub returns-in-Power : goal.returns-in-Power
unfolding called power_call
returns-in-Power c = rw c.in-Power.is (no_place c.trapcard_power.ensures)

pub returns-in-Put : goal.returns-in-Put
unfolding called put_call
returns-in-Put c = rw c.in-Put.is (no_place c.trapcard_put.ensures)

pub returns-in-Get : goal.returns-in-Get
returns-in-Get c = rw c.in-Get.is (get-place c.trapcard_get.ensures)

pub returns-in-GetList : goal.returns-in-GetList
returns-in-GetList c = rw c.in-GetList.is (list_out c.trapcard_get_list.ensures)

pub returns-in-Commit : goal.returns-in-Commit
unfolding called commit_call
returns-in-Commit c = rw c.in-Commit.is (no_place c.trapcard_commit.ensures)

pub returns-in-Abandon : goal.returns-in-Abandon
unfolding called abandon_call
returns-in-Abandon c = rw c.in-Abandon.is (no_place c.trapcard_abandon.ensures)

pub returns-in-Direct : goal.returns-in-Direct
unfolding called direct_call
returns-in-Direct c = rw c.in-Direct.is (no_place c.trapcard_direct.ensures)

pub returns-in-Sync : goal.returns-in-Sync
unfolding called sync_call
returns-in-Sync c = rw c.in-Sync.is (no_place c.trapcard_sync.ensures)

pub returns-in-Apply : goal.returns-in-Apply
unfolding called apply_call
returns-in-Apply c = rw c.in-Apply.is (no_place c.trapcard_apply.ensures)

pub returns-in-Recover : goal.returns-in-Recover
unfolding called recover_call
returns-in-Recover c = rw c.in-Recover.is (no_place c.trapcard_recover.ensures)

pub returns-in-Cut : goal.returns-in-Cut
unfolding called cut_call
returns-in-Cut c = rw c.in-Cut.is (no_place c.trapcard_cut.ensures)
