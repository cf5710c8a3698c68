-- The constants are the products that they are named for: by computing. Assumes nothing.
use Rattle.std.proofs.Common.{refl}
use Rattle.field.specs.Field.{add_p, mul_p}
use Rattle.field.specs.Constants.{BorrowConstants}

pub borrow_constants : BorrowConstants
unfolding add_p mul_p
borrow_constants =
    record {
      is_inv32 = refl;
      is_inv16 = refl;
      is_inv64 = refl;
      is_inv48 = refl;
      is_neg_inv32 = refl;
      is_neg_inv64 = refl;
      is_neg_seven_inv64 = refl;
      is_eight_inv64 = refl;
    }
