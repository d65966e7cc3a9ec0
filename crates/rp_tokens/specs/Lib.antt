pub mod MachineStates
pub mod MachineTypes
pub mod MachineExprs
pub mod MachineStmts
pub mod MachineDecls
pub mod Machine
