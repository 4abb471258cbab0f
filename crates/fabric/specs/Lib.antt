pub mod Desks
pub mod Places
pub mod Fabric
pub mod Images
pub mod Patches
pub mod Writers
pub mod Headline
pub mod Ahead
