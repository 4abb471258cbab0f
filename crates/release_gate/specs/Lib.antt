pub mod GateState
