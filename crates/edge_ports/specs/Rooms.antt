-- What contracts see of a printer over the caller's room.
use Rattle.std.specs.Prelude.{◌++◌, ℕ, List, Some, drop, take}
use Rattle.edge_ports.specs.{Printouts.Printout, declared.room.Room.Room}

-- all the bytes of the room, those included that were not given
abbrev pub room_of : Room → List ℕ
room_of printer = printer.room.now

-- the bytes that were given so far: the front of the room
abbrev pub given_of : Room → List ℕ
given_of printer = take printer.len printer.room.now

-- the name of the loan of the room
abbrev pub loan_of : Room → ℕ
loan_of printer = printer.room.ghost_name

-- the text that is printed: what of it found room, and what did not
abbrev pub printout_of : Room → Printout
printout_of printer = record {
  began = record {
    given = Some (take printer.from printer.room.now);
    faults = printer.before;
    loan = loan_of printer;
  };
  text = drop printer.from (given_of printer) ++ printer.lost;
}

-- what the room is to have at its front once the text is finished, if it finds room
abbrev pub all_of : Room → List ℕ
all_of printer = take printer.from printer.room.now ++ (printout_of printer).text
