use Rattle.wg_subres.proofs.Covered.{views_cover, copies_cover, view_cells_lie, copied_cells_lie}
use Rattle.wg_subres.proofs.Accessed.{view_cells_are, copied_cells_are}
use Rattle.wg_subres.proofs.Meeting.{copies_meet_where}
use Rattle.wg_subres.proofs.ViewsMeeting.{views_meet_where}
use Rattle.wg_subres.proofs.Attaching.{attached_meet_where}
use Rattle.wg_subres.proofs.runs_cover.Goals as goal

pub returns-clause-views : goal.returns-clause-views
returns-clause-views c = views_cover

pub returns-clause-copies : goal.returns-clause-copies
returns-clause-copies c = copies_cover

pub returns-clause-view_cells : goal.returns-clause-view_cells
returns-clause-view_cells c = view_cells_lie

pub returns-clause-cells : goal.returns-clause-cells
returns-clause-cells c = copied_cells_lie

pub returns-clause-all_of_view : goal.returns-clause-all_of_view
returns-clause-all_of_view c = view_cells_are

pub returns-clause-all_of_copy : goal.returns-clause-all_of_copy
returns-clause-all_of_copy c = copied_cells_are

pub returns-clause-meet : goal.returns-clause-meet
returns-clause-meet c = copies_meet_where

pub returns-clause-views_meet : goal.returns-clause-views_meet
returns-clause-views_meet c = views_meet_where

pub returns-clause-attached_meet : goal.returns-clause-attached_meet
returns-clause-attached_meet c = attached_meet_where
