pub mod Numbers
pub mod WordCuts
pub mod LineCuts
pub mod Printed
