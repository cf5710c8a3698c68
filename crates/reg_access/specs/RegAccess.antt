-- One access of a register, by its six inputs. Document 01: "Also `push_reg_access`: its six inputs (words of 32 bits) to a route and its
-- record, in the answer itself; 11, place 0, is its one refusal." The route is that of the access record that the Rust would build.
-- Assumes nothing.
use Rattle.std.specs.Prelude.{◌≡◌, Bool, true, cond, List, ◌++◌, ℕ, ◌-◌, ◌%◌, eqb, replicate, Result, Ok, Err}
use Rattle.lists.specs.Lists.{at}
use Rattle.words.specs.Words.{low_word, bit}
use Rattle.access.specs.Access.{BASE_ADDRESS, ACCESS_WIDTH, access_record}
use Rattle.access.specs.RegisterAccess.{register_access}
use Rattle.access.specs.Tables.{REGISTER_WIDTH}
use Rattle.access.specs.declared.AccessTable.{AccessTable}
use Rattle.access.specs.declared.AccessTable.TheVariants as table
use Rattle.classify.specs.Classify.{delta_in_range, delta_less_one, classify, carrying, access_route, table_for, access_numbers, access_refused}
use Rattle.classify.specs.TableRecord.{register_record, address_fits}
use Rattle.classify.specs.declared.AccessNumbers.{AccessNumbers}
use Rattle.classify.specs.declared.AccessRoute.{AccessRoute}
use Rattle.classify.specs.declared.MemwRoute.{MemwRoute}
use Rattle.classify.specs.declared.MemwRoute.TheVariants.{Register, Aligned, General}
use Rattle.reg_access.specs.declared.BadAddress.{BadAddress}
use Rattle.reg_access.specs.declared.RegAccess.{RegAccess}

-- the access record of the six inputs, as `build_reg_fallback` builds it
unfoldable pub built : ℕ → List ℕ → List ℕ → ℕ → ℕ → Bool → List ℕ
built address val old timestamp old_timestamp is_read =
    access_record (register_access address val old timestamp old_timestamp (bit is_read))

-- a record as its table's list has it, and zeros behind the register table's 8 numbers
abbrev pub with_zeros : AccessTable → List ℕ → List ℕ
with_zeros table.General r = r
with_zeros table.Aligned r = r
with_zeros table.Register r = register_record r ++ replicate (ACCESS_WIDTH - REGISTER_WIDTH) 0

-- the answer for an access record: 11 where it goes to the register table and has no place there
unfoldable pub pushed : List ℕ → RegAccess
pushed r =
    cond (address_fits (table_for r) (at r BASE_ADDRESS)) (record { answer = Ok (access_route r); written = with_zeros (table_for r) r })
    (record { answer = Err (record {}); written = replicate ACCESS_WIDTH 0 })

-- document 01's number, place and value of each case, and the number that its route carries
abbrev pub push_numbers : Result AccessRoute BadAddress → AccessNumbers
push_numbers (Ok route) = access_numbers route
push_numbers (Err why) = access_refused 11

-- The route by the inputs alone, without the record: no value decides it

abbrev pub route_of : ℕ → ℕ → ℕ → MemwRoute
route_of address timestamp old_timestamp =
    cond (delta_in_range timestamp old_timestamp) Register (cond (eqb (low_word address % 2) 0) Aligned General)

-- it is that of the record, and it is Register exactly if the stamps are in range; then it carries their low difference less one
pub record RegisterExactly (address : ℕ) (val old : List ℕ) (timestamp old_timestamp : ℕ) (is_read : Bool) : Type 0 where
  pub same_route : classify (built address val old timestamp old_timestamp is_read) ≡ route_of address timestamp old_timestamp
  pub register_in_range : classify (built address val old timestamp old_timestamp is_read) ≡ Register → delta_in_range timestamp old_timestamp ≡ true
  pub in_range_register : delta_in_range timestamp old_timestamp ≡ true → classify (built address val old timestamp old_timestamp is_read) ≡ Register
  pub carries : access_route (built address val old timestamp old_timestamp is_read)
      ≡ carrying (route_of address timestamp old_timestamp) (delta_less_one timestamp old_timestamp)

-- whatever the inputs: `route_by_inputs_holds` in theorems
abbrev pub RouteByInputs : Type 0
RouteByInputs =
    (address : ℕ) (val old : List ℕ) (timestamp old_timestamp : ℕ) (is_read : Bool) → RegisterExactly address val old timestamp old_timestamp is_read

-- the numbers of an answer leave nothing of it free: `route_by_inputs_holds` too
abbrev pub PushTold : Type 0
PushTold = (a b : Result AccessRoute BadAddress) → push_numbers a ≡ push_numbers b → a ≡ b
