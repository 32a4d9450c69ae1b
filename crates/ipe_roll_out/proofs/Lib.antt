pub mod NoDevices
