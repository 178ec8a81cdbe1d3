use Rattle.std.proofs.Common.{false, rules}
use Rattle.machine.specs.State.{Boundary}
use Rattle.machine.proofs.Stalls.{law}
use Rattle.risc5.specs.Set.{card, pace}
use Rattle.risc5.proofs.Fitting.{fits}
use Rattle.cpu.specs.Cores.{down}
use Rattle.cpu.proofs.Held.release.Goals as goal

pub returns : goal.returns
returns g c =
    let m = g.B.Bus.meaning in
    let b : Boundary =
    record {
      context =
          record {
            registers = c.args.self.registers;
            fetched = record { pc = 0x3F_F800; ir = c.fetch.result };
            interrupts = record { enable = false; mode = false; saved_pc = 0; saved_flags = down };
            ticks = record { pending = false; last = false };
          };
      contents = g.B.Bus.contents c.args.bus.now;
    } in
    let holds = law m card pace fits b in
    record {
      core = search rules;
      ends_by_the_clock_rules = holds.ends_by_the_clock_rules;
      ends_by_the_instruction_machine = holds.ends_by_the_instruction_machine;
      tells_every_instruction = holds.tells_every_instruction;
      lines_are_clocks_and_stalls = holds.lines_are_clocks_and_stalls;
      equal_ends_under_other_stalls = holds.equal_ends_under_other_stalls;
    }
