-- A card with its record and buffers, as a state of the store.
use Rattle.powercut.specs.declared.device.Device.{Device}
use Rattle.store.specs.State.{State}
use Rattle.store.specs.CodeState.{state_of}

abbrev pub state : Device → State
state d = state_of d.rec d.settled d.waiting d.work
