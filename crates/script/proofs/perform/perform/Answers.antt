-- `script::perform::perform` meets its contract.
use mathlib.Core.Path.{ap, ◌∙◌}
use Rattle.script.specs.Replies.{called, saved, perform}
use Rattle.script.proofs.perform.perform.Goals as goal

pub returns-in-Format : goal.returns-in-Format
unfolding perform
returns-in-Format c = rw c.in-Format.is (c.called.ensures _ _ _ ∙ ap called c.format.ensures)

pub returns-in-Power : goal.returns-in-Power
unfolding perform
returns-in-Power c = rw c.in-Power.is (c.called-in-Power.ensures _ _ _ ∙ ap called c.power.ensures)

pub returns-in-Put : goal.returns-in-Put
unfolding perform
returns-in-Put c = rw c.in-Put.is c.put.ensures

pub returns-in-Get : goal.returns-in-Get
unfolding perform
returns-in-Get c = rw c.in-Get.is c.get.ensures

pub returns-in-Commit : goal.returns-in-Commit
unfolding perform
returns-in-Commit c = rw c.in-Commit.is (c.called-in-Commit.ensures _ _ _ ∙ ap called c.commit.ensures)

pub returns-in-Abandon : goal.returns-in-Abandon
unfolding perform
returns-in-Abandon c = rw c.in-Abandon.is (c.called-in-Abandon.ensures _ _ _ ∙ ap called c.abandon.ensures)

pub returns-in-Sync : goal.returns-in-Sync
unfolding perform
returns-in-Sync c = rw c.in-Sync.is (c.saved.ensures _ _ _ ∙ ap saved c.sync.ensures)

pub returns-in-Apply : goal.returns-in-Apply
unfolding perform
returns-in-Apply c = rw c.in-Apply.is (c.saved-in-Apply.ensures _ _ _ ∙ ap saved c.apply.ensures)

pub returns-in-Recover : goal.returns-in-Recover
unfolding perform
returns-in-Recover c = rw c.in-Recover.is (c.saved-in-Recover.ensures _ _ _ ∙ ap saved c.recover.ensures)

pub returns-in-Cut : goal.returns-in-Cut
unfolding perform
returns-in-Cut c = rw c.in-Cut.is c.cut.ensures

pub returns-in-Bad : goal.returns-in-Bad
unfolding perform
returns-in-Bad c = rw c.in-Bad.is
