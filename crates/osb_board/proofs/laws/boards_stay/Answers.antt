use Rattle.osb_board.proofs.Kept.{IsBoard-new_board, IsBoard-after_claim, IsBoard-after_done}
use Rattle.osb_board.proofs.laws.boards_stay.Goals as goal

pub returns : goal.returns
returns g c = record {
  law = record {
    new = IsBoard-new_board _;
    claim = IsBoard-after_claim;
    done = IsBoard-after_done;
  };
}
