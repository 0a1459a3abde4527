-- Every statement of specs/Demand, in one.
use Rattle.history.specs.Demand.{Demand3}
use Rattle.history.proofs.Answered.{answered, picture_given_law}
use Rattle.history.proofs.Demand.{never_2, counted, ends_in_time_law, empty_at_origin_law, marked}
use Rattle.history.proofs.Frame.{each_once_law}
use Rattle.history.proofs.Torn.{torn}
use Rattle.history.proofs.Unseen.{marked_unseen_law, first_picture_law}
use Rattle.history.proofs.Alike.{independent}
use Rattle.history.proofs.Exists.{every_number_law, reached, begun_frame, unshown}

pub demand_3 : Demand3
demand_3 =
    record {
      never2 = never_2;
      answered = answered;
      counted = counted;
      ends_in_time = ends_in_time_law;
      empty_at_origin = empty_at_origin_law;
      each_once = each_once_law;
      marked = marked;
      torn = torn;
      picture_given = picture_given_law;
      independent = independent;
      every_number = every_number_law;
      reached = reached;
      begun = begun_frame;
      marked_unseen = marked_unseen_law;
      first_picture = first_picture_law;
      unshown = unshown;
    }
